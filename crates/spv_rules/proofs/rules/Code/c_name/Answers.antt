use Rattle.spv_rules.specs.inner.Held.{plain}
use Rattle.spv_rules.proofs.Rows.{c_name_by}
use Rattle.spv_rules.proofs.rules.Code.c_name.Goals as goal

pub returns : goal.returns
returns c = c_name_by c.args.self (plain c.row.result.now) c.row.ensures
