use Rattle.spv_rules.specs.Table.{Row}
use Rattle.spv_rules.specs.inner.Held.{plain}
use Rattle.spv_rules.proofs.Rows.{told_by}
use Rattle.spv_rules.proofs.rules.Code.section.Goals as goal

pub returns : goal.returns
returns c = told_by (λ (row : Row). row.5.now) c.args.self (plain c.row.result.now) c.row.ensures
