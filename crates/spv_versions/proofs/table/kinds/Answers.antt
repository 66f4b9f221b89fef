use Rattle.std.proofs.Common.{refl}
use Rattle.spv_versions.specs.inner.Told.{kinds}
use Rattle.spv_versions.proofs.table.kinds.Goals as goal

pub returns : goal.returns
unfolding kinds
returns c = refl
