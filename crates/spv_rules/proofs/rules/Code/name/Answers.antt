use Rattle.spv_rules.specs.inner.Held.{plain}
use Rattle.spv_rules.proofs.Rows.{name_by, short_by}
use Rattle.spv_rules.proofs.rules.Code.name.Goals as goal

pub returns-clause-name : goal.returns-clause-name
returns-clause-name c = name_by c.args.self (plain c.row.result.now) c.row.ensures

pub returns-clause-short : goal.returns-clause-short
returns-clause-short c = rw (name_by c.args.self (plain c.row.result.now) c.row.ensures) (short_by c.args.self (plain c.row.result.now) c.row.ensures)
