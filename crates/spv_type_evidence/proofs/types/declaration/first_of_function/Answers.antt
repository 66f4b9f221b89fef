use Rattle.spv_module.specs.Module.{plain_operands}
use Rattle.spv_type_evidence.proofs.lemmas.types.Firsts.{parameters_first, returned_first}
use Rattle.spv_type_evidence.proofs.types.declaration.first_of_function.Goals as goal

pub returns-then-is_returned : goal.returns-then-is_returned
returns-then-is_returned c =
    parameters_first c.args.definitions.now (plain_operands c.args.operands.now)
    (plain_operands c.in-Some.parameters.now) c.in-Some.returned c.first_no_data.result c.in-Some.ensures
    (c.is_returned.ensures.0 c.if-is_returned.true) c.first_no_data.ensures

pub returns-else-is_returned : goal.returns-else-is_returned
returns-else-is_returned c =
    returned_first c.args.definitions.now (plain_operands c.args.operands.now)
    (plain_operands c.in-Some.parameters.now) c.in-Some.returned c.in-Some.ensures
    (λ h. let on = c.is_returned.ensures.1 h in let off = c.if-is_returned.false in cc)
