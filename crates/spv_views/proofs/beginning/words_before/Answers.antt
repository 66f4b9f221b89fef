use Rattle.std.proofs.Common.{arith}
use Rattle.std.proofs.lemmas.Grind.{common_steps}
use Rattle.spv_views.proofs.beginning.words_before.Goals as goal

pub header-header-requires : goal.header-header-requires
header-header-requires c = grind (arith, common_steps)

pub new-draft-requires : goal.new-draft-requires
new-draft-requires c = grind (arith, common_steps)

pub loop-at-init : goal.loop-at-init
loop-at-init c = grind (arith, common_steps)

pub word-requires : goal.word-requires
word-requires c = grind (arith, common_steps)

pub push-requires : goal.push-requires
push-requires c = grind (arith, common_steps)

pub returns-in_err-push : goal.returns-in_err-push
returns-in_err-push c = grind (arith, common_steps)

pub loop-at-smaller : goal.loop-at-smaller
loop-at-smaller c = grind (arith, common_steps)

pub loop-at-preserved : goal.loop-at-preserved
loop-at-preserved c = grind (arith, common_steps)

pub finish-requires-clause-header : goal.finish-requires-clause-header
finish-requires-clause-header c = grind (arith, common_steps)

pub finish-requires-clause-size : goal.finish-requires-clause-size
finish-requires-clause-size c = grind (arith, common_steps)
