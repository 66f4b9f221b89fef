use Rattle.std.proofs.Common.{◌∙◌, sym}
use Rattle.spv_module.specs.Module.{plain_inst, plain_operands}
use Rattle.spv_declarations.proofs.Both.{both_found, both_none}
use Rattle.spv_declarations.proofs.second.has_both.Goals as goal

pub returns-in-Some-group_of-clause-found : goal.returns-in-Some-group_of-clause-found
returns-in-Some-group_of-clause-found c = λ t.
    both_found c.args.one.now c.args.other.now (plain_operands c.behind_first.result.now) (c.is_one_in_both.ensures.0 t)

pub returns-in-Some-group_of-clause-none : goal.returns-in-Some-group_of-clause-none
returns-in-Some-group_of-clause-none c =
    both_none c.args.one.now c.args.other.now (plain_inst c.args.inst.now) (plain_operands c.behind_first.result.now)
    c.is_one_in_both.result c.behind_first.ensures (sym c.given.ensures ∙ c.in_default.is) c.is_one_in_both.ensures
