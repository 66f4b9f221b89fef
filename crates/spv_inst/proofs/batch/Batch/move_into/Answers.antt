use Rattle.std.proofs.Common.{arith}
use Rattle.std.proofs.lemmas.Grind.{common_steps}
use Rattle.spv_inst.proofs.batch.Batch.move_into.Goals as goal

pub part-requires : goal.part-requires
part-requires c = grind (arith, common_steps)

pub loop-head-preserved : goal.loop-head-preserved
loop-head-preserved c = grind (arith, common_steps)

pub returns-clause-moved : goal.returns-clause-moved
returns-clause-moved c = grind (arith, common_steps)
