use Rattle.spv_rules.specs.inner.Held.{plain_error}
use Rattle.spv_rules.proofs.ErrorRows.{error_name_by}
use Rattle.spv_rules.proofs.errors.ErrorCode.name.Goals as goal

pub returns : goal.returns
returns c = error_name_by c.args.self (plain_error c.row.result.now) c.row.ensures
