use Rattle.spv_module.specs.Module.{plain_operands}
use Rattle.spv_type_evidence.proofs.lemmas.types.Firsts.{image_in_first}
use Rattle.spv_type_evidence.proofs.types.declaration.first_of_image.Goals as goal

pub returns-in-Some : goal.returns-in-Some
returns-in-Some c = image_in_first c.args.definitions.now
    (plain_operands c.args.operands.now) c.in-Some.image c.first_in_image.result c.in-Some.ensures c.first_in_image.ensures
