use Rattle.spv_run.proofs.Theorem.{never_gets_stuck}
use Rattle.spv_run.proofs.Sound.{checked}
use Rattle.spv_run.proofs.laws.run_never_gets_stuck.Goals as goal

pub returns : goal.returns
returns c = λ G bound is sound g entry choices. never_gets_stuck G is (checked G bound is sound) g entry choices
