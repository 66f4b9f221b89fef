use Rattle.std.proofs.Common.{refl}
use Rattle.spv_versions.specs.inner.Told.{low}
use Rattle.spv_versions.proofs.table.low.Goals as goal

pub returns : goal.returns
unfolding low
returns c = refl
