use Rattle.spv_rules.specs.inner.Held.{plain}
use Rattle.spv_rules.proofs.Rows.{number_by}
use Rattle.spv_rules.proofs.rules.Code.number.Goals as goal

pub returns : goal.returns
returns c = number_by c.args.self (plain c.row.result.now) c.row.ensures
