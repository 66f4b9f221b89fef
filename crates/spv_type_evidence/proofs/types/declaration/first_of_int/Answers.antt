use Rattle.spv_module.specs.Module.{plain_operands}
use Rattle.spv_type_evidence.proofs.lemmas.types.Firsts.{int_first}
use Rattle.spv_type_evidence.proofs.types.declaration.first_of_int.Goals as goal

pub returns-in-Some : goal.returns-in-Some
returns-in-Some c = int_first (plain_operands c.args.operands.now) c.in-Some.width c.in-Some.signedness
    c.is_int_width.result c.first_of_two.result c.in-Some.ensures c.is_int_width.ensures c.first_of_two.ensures
