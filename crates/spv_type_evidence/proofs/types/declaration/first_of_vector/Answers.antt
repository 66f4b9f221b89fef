use Rattle.spv_module.specs.Module.{plain_operands}
use Rattle.spv_type_evidence.proofs.lemmas.types.Firsts.{vector_first}
use Rattle.spv_type_evidence.proofs.types.declaration.first_of_vector.Goals as goal

pub returns-in-Some : goal.returns-in-Some
returns-in-Some c = vector_first c.args.definitions.now
    (plain_operands c.args.operands.now) c.in-Some.component c.in-Some.count c.is_scalar.result c.is_vector_count.result
    c.first_of_two.result c.in-Some.ensures c.is_scalar.ensures c.is_vector_count.ensures c.first_of_two.ensures
