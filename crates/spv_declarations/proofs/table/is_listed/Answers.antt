use Rattle.std.proofs.Common.{refl}
use Rattle.spv_declarations.specs.Table.{lines}
use Rattle.spv_declarations.proofs.table.is_listed.Goals as goal

pub returns : goal.returns
unfolding lines
returns c = refl
