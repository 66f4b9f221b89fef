use Rattle.spv_module.specs.Module.{plain_operands}
use Rattle.spv_type_evidence.proofs.lemmas.types.Firsts.{float_first}
use Rattle.spv_type_evidence.proofs.types.declaration.first_of_float.Goals as goal

pub returns-in-Some : goal.returns-in-Some
returns-in-Some c = float_first (plain_operands c.args.operands.now) c.in-Some.width c.is_float_width.result
    c.first_of_two.result c.in-Some.ensures c.is_float_width.ensures c.first_of_two.ensures
