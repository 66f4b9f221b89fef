use Rattle.std.proofs.Common.{refl}
use Rattle.spv_versions.specs.inner.Told.{undated}
use Rattle.spv_versions.proofs.table.undated.Goals as goal

pub returns : goal.returns
unfolding undated
returns c = refl
