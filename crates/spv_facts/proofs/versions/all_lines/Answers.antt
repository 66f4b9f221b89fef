use Rattle.std.proofs.Common.{refl}
use Rattle.spv_versions.specs.Table.{lines}
use Rattle.spv_facts.proofs.versions.all_lines.Goals as goal

pub returns : goal.returns
unfolding lines
returns c = refl
