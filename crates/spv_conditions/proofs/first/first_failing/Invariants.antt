use Rattle.std.proofs.Common.{drop, length}
use Rattle.spv_module.specs.Module.{plain_inst}
use Rattle.spv_conditions.specs.Asks.{conditions_in}
use Rattle.spv_conditions.specs.inner.Direct.{HoldsDirectly}
use Rattle.spv_conditions.proofs.lemmas.Listing.{Held}
use Rattle.spv_conditions.proofs.first.first_failing.Given as goal

abbrev pub invariant-loop-k : goal.invariant-loop-k
invariant-loop-k l = Held (HoldsDirectly l.definitions l.number (plain_inst l.inst) l.r l.types)
    (conditions_in (drop l.k l.line) (length l.types)) (conditions_in l.line (length l.types))
