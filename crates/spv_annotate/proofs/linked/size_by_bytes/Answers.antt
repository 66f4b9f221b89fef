use Rattle.std.proofs.Common.{arith}
use Rattle.std.proofs.lemmas.Grind.{common_steps}
use Rattle.spv_annotate.proofs.linked.size_by_bytes.Goals as goal

pub returns-then-begins_id-clause-size : goal.returns-then-begins_id-clause-size
returns-then-begins_id-clause-size c = grind (arith, common_steps)

pub loop-at-preserved : goal.loop-at-preserved
loop-at-preserved c = grind (arith, common_steps)

pub returns-clause-size : goal.returns-clause-size
returns-clause-size c = grind (arith, common_steps)
