use Rattle.spv_module.specs.Module.{plain_operands}
use Rattle.spv_type_evidence.proofs.lemmas.types.Firsts.{sampled_first}
use Rattle.spv_type_evidence.proofs.types.declaration.first_of_sampled_image.Goals as goal

pub returns-in-Some : goal.returns-in-Some
returns-in-Some c = sampled_first c.args.definitions.now
    (plain_operands c.args.operands.now) c.in-Some.image c.declares_sampled.result c.first_of_two.result
    c.in-Some.ensures c.declares_sampled.ensures c.first_of_two.ensures
