use Rattle.std.proofs.Common.{◌∙◌, ap}
use Rattle.std.specs.Prelude.{codes}
use Rattle.spv_table.specs.Table.{Table}
use Rattle.spv_table.specs.Lookups.{number_named}
use Rattle.spv_declarations.proofs.misdeclared.linkage_type.Goals as goal

pub returns-then-kinds : goal.returns-then-kinds
returns-then-kinds c = λ e.
    c.kind_named.ensures ∙ ap (λ (T : Table). number_named T (codes "LinkageType")) c.table.ensures
