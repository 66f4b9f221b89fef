use Rattle.std.proofs.lemmas.Bool.{false≢true}
use Rattle.spv_versions.proofs.late.Late.is_any_hit.Goals as goal

pub returns-then-is_surely_there : goal.returns-then-is_surely_there
returns-then-is_surely_there c = λ floors. (
  λ t. absurd (false≢true t),
  λ h. absurd (c.is_surely_there.ensures floors c.if-is_surely_there.true h),
)
