use Rattle.spv_module.specs.Module.{plain_operands}
use Rattle.spv_type_evidence.proofs.lemmas.types.Firsts.{pointer_first}
use Rattle.spv_type_evidence.proofs.types.declaration.first_of_pointer.Goals as goal

pub returns-in-Some : goal.returns-in-Some
returns-in-Some c = pointer_first c.args.definitions.now
    (plain_operands c.args.operands.now) c.in-Some.pointee c.is_pointee.result c.first_of_two.result c.in-Some.ensures
    c.is_pointee.ensures c.first_of_two.ensures
