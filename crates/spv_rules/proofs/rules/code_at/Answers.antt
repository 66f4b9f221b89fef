use Rattle.std.proofs.Common.{◌≤◌, sym}
use Rattle.spv_rules.specs.Table.{row_count}
use Rattle.spv_rules.specs.inner.Held.{plain}
use Rattle.spv_rules.proofs.AllCodes.{error_at, verdict_at}
use Rattle.spv_rules.proofs.rules.code_at.Goals as goal

pub returns-then-place-verdicts : goal.returns-then-place-verdicts
returns-then-place-verdicts c = sym (verdict_at c.args.place (plain c.row_at.result.now) c.row_at.ensures)

pub returns : goal.returns
returns c =
    let few : row_count ≤ c.args.place = rw c.count-verdicts.ensures at c.if-place-verdicts.false in
    rw (error_at c.args.place few, ← c.count-verdicts.ensures) c.error_code_at.ensures
