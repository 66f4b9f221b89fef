use Rattle.spv_rules.specs.inner.Held.{plain_error}
use Rattle.spv_rules.proofs.ErrorRows.{code_at_row}
use Rattle.spv_rules.proofs.errors.error_at.Goals as goal

pub returns : goal.returns
returns c = code_at_row c.args.place (plain_error c.error_row_at.result.now) c.error_row_at.ensures
