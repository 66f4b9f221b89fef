use Rattle.std.proofs.Common.{◌∙◌, ap, map, refl, arith}
use Rattle.std.specs.Char.{to_ascii_lowercase}
use Rattle.spv_rules.specs.inner.Held.{plain}
use Rattle.spv_rules.proofs.Rows.{name_at, nameless}
use Rattle.spv_rules.proofs.rules.Code.named.Goals as goal

pub returns-then-eq_ignore_ascii_case : goal.returns-then-eq_ignore_ascii_case
returns-then-eq_ignore_ascii_case c =
    let row = plain c.row_at-row.result.now in
    c.if-eq_ignore_ascii_case.ensures.test.0 refl ∙ ap (map to_ascii_lowercase) (name_at c.loop-place.place row c.row_at-row.ensures)

pub returns : goal.returns
returns c = nameless c.args.name.now (λ n row l. c.loop-place.invariant n row (omega (arith, l, c.loop-place-test.false)))
