use Rattle.std.proofs.Common.{not, is_some, Bool, ◌≡◌, true, false, refl}
use Rattle.spv_inst.specs.inner.Pending.{plain_slot}
use Rattle.spv_parser.proofs.Taken.{front_by, front_not}
use Rattle.spv_parser.proofs.operands.is_in_front.Goals as goal

turned : (a b : Bool) → a ≡ not b → b ≡ not a
turned true true e = cc
turned true false e = refl
turned false true e = refl
turned false false e = cc

pub returns-in-Result : goal.returns-in-Result
returns-in-Result c =
    λ G d h e. front_by G d (plain_slot c.args.asked.slot) c.args.asked.leaf c.is_none.result c.args.known.result e
    c.in-Result.is h.result (turned (is_some c.args.known.result) c.is_none.result c.is_none.ensures)

pub returns-in_default : goal.returns-in_default
returns-in_default c =
    λ G d h e. front_not G d (plain_slot c.args.asked.slot) c.args.asked.leaf e c.in_default.not-Result
