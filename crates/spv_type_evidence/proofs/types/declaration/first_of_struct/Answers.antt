use Rattle.spv_module.specs.Module.{plain_operands}
use Rattle.spv_type_evidence.proofs.lemmas.types.Firsts.{struct_first}
use Rattle.spv_type_evidence.proofs.types.declaration.first_of_struct.Goals as goal

pub returns-in-Some : goal.returns-in-Some
returns-in-Some c = struct_first c.args.definitions.now (plain_operands c.args.operands.now)
    (plain_operands c.in-Some.members.now) c.first_no_data.result c.in-Some.ensures c.first_no_data.ensures
