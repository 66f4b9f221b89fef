use Rattle.spv_rules.specs.Errors.{ErrorRow}
use Rattle.spv_rules.specs.inner.Held.{plain_error}
use Rattle.spv_rules.proofs.ErrorRows.{told_by}
use Rattle.spv_rules.proofs.errors.ErrorCode.section.Goals as goal

pub returns : goal.returns
returns c = told_by (λ (row : ErrorRow). row.3.now) c.args.self (plain_error c.row.result.now) c.row.ensures
