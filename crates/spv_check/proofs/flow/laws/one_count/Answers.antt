use Rattle.std.proofs.Common.{length}
use Rattle.spv_check.proofs.Flowing.Counts.{one_count}
use Rattle.spv_check.proofs.flow.laws.one_count.Goals as goal

pub returns : goal.returns
returns c = λ is m n h k. one_count is (length is) m n h k
