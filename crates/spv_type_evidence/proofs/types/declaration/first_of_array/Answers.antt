use Rattle.spv_module.specs.Module.{plain_operands}
use Rattle.spv_type_evidence.proofs.lemmas.types.Firsts.{array_first}
use Rattle.spv_type_evidence.proofs.types.declaration.first_of_array.Goals as goal

pub returns-in-Some : goal.returns-in-Some
returns-in-Some c = array_first c.args.definitions.now
    (plain_operands c.args.operands.now) c.in-Some.element c.in-Some.length c.is_data.result c.is_length.result
    c.first_of_two.result c.in-Some.ensures c.is_data.ensures c.is_length.ensures c.first_of_two.ensures
