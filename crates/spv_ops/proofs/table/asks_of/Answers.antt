use Rattle.std.proofs.Common.{◌∙◌, ap, refl}
use Rattle.std.specs.Prelude.{slice_get, unwrap_or}
use Rattle.spv_ops.specs.declared.table.TheConstants.{NUMBERS}
use Rattle.spv_ops.specs.Table.{Line, lines}
use Rattle.spv_ops.specs.inner.Table.{asked_by}
use Rattle.spv_ops.proofs.Rows.{count, found}
use Rattle.spv_ops.proofs.table.asks_of.Goals as goal

pub returns : goal.returns
unfolding count lines
returns c = c.asked_at.ensures ∙ ap (λ k. asked_by (slice_get lines k)) c.number_of.ensures
    ∙ found (λ o. asked_by (slice_get lines (unwrap_or o 255))) (λ (l : Line). l.2.now) NUMBERS
    c.args.opcode refl refl refl
