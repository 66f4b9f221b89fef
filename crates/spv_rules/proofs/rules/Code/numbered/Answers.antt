use Rattle.std.proofs.Common.{◌∙◌, sym, arith}
use Rattle.spv_rules.specs.inner.Held.{plain}
use Rattle.spv_rules.proofs.Rows.{number_at, numberless}
use Rattle.spv_rules.proofs.rules.Code.numbered.Goals as goal

pub returns-then-row-number : goal.returns-then-row-number
returns-then-row-number c =
    let row = plain c.row_at-row.result.now in
    sym c.if-row-number.true ∙ number_at c.loop-place.place row c.row_at-row.ensures

pub returns : goal.returns
returns c = numberless c.args.number (λ n row l. c.loop-place.invariant n row (omega (arith, l, c.loop-place-test.false)))
