use Rattle.std.proofs.Common.{arith}
use Rattle.std.proofs.lemmas.Grind.{common_steps}
use Rattle.spv_annotate.proofs.writer.draft_comment.Goals as goal

pub push_comment-requires-clause-within : goal.push_comment-requires-clause-within
push_comment-requires-clause-within c = grind (arith, common_steps)
