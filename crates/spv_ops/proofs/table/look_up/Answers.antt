use Rattle.std.proofs.Common.{◌∙◌, ap, refl}
use Rattle.std.specs.Prelude.{slice_get, unwrap_or}
use Rattle.spv_ops.specs.declared.table.Found.{Found}
use Rattle.spv_ops.specs.declared.table.TheConstants.{NUMBERS}
use Rattle.spv_ops.specs.Table.{Line, lines}
use Rattle.spv_ops.specs.inner.Table.{first_from, found_by}
use Rattle.spv_ops.proofs.Rows.{count, found}
use Rattle.spv_ops.proofs.table.look_up.Goals as goal

pub returns-clause-first : goal.returns-clause-first
unfolding count lines
returns-clause-first c =
    ap (λ (f : Found). f.first) c.found_at.ensures
    ∙ ap (λ k. (found_by (slice_get lines k)).first) c.number_of.ensures
    ∙ found (λ o. (found_by (slice_get lines (unwrap_or o 255))).first) (λ (l : Line). first_from l.0.now) NUMBERS
    c.args.opcode refl refl refl

pub returns-clause-places : goal.returns-clause-places
unfolding count lines
returns-clause-places c =
    ap (λ (f : Found). f.places) c.found_at.ensures
    ∙ ap (λ k. (found_by (slice_get lines k)).places) c.number_of.ensures
    ∙ found (λ o. (found_by (slice_get lines (unwrap_or o 255))).places) (λ (l : Line). l.1) NUMBERS c.args.opcode
    refl refl refl
