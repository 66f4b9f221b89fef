use Rattle.std.proofs.Common.{◌≡◌, ◌<◌, ◌-◌, length, get_or, slice_get, Some, sym, ap, subst, ◌∙◌, arith}
use Rattle.std.proofs.lemmas.Grind.{common_steps}
use Rattle.std.specs.Str.{IsUtf8}
use Rattle.spv_table.specs.declared.listed.Joined.{Joined}
use Rattle.spv_table.specs.inner.Joined.{begin_of, names_in}
use Rattle.spv_table.proofs.Joined.{IsNameAt, name_at, begins_after, names_count}
use Rattle.spv_table.proofs.listed.NameList.name.Goals as goal
use Rattle.spv_table.proofs.listed.NameList.name.Goals.{After-as_str, then-place-eq0, else-place-eq0}

pub index-requires : goal.index-requires
index-requires c =
    let joined = c.self.inside.joined.value in
    let count = names_count 0 joined.text.bytes.items joined.ends.items in
    let view = ap length c.self.view_is in
    grind (arith, common_steps, count, view, c.as_ref-joined.ensures)

pub index-requires-else-place-eq0 : goal.index-requires-else-place-eq0
index-requires-else-place-eq0 c =
    let joined = c.self.inside.joined.value in
    let count = names_count 0 joined.text.bytes.items joined.ends.items in
    let view = ap length c.self.view_is in
    grind (arith, common_steps, count, view, c.as_ref-joined.ensures)

at_place : (c : After-as_str) → IsNameAt c.as_str.result.now c.self.inside.joined.value.ends.items c.args.place c.if-place-eq0.begin c.index.result.now
at_place c =
    let joined = c.self.inside.joined.value in
    let es = joined.ends.items in
    let t = joined.text.bytes.items in
    let i = c.args.place in
    let count = names_count 0 t es in
    let view = ap length c.self.view_is in
    let within : i < length es = omega (arith, count, view) in
    let ends : c.as_ref-joined.result.now.ends.items ≡ es = ap (λ (j : Joined). j.ends.items) c.as_ref-joined.ensures in
    let text : c.as_str.result.now ≡ t = c.as_str.ensures.value ∙ ap (λ (j : Joined). j.text.bytes.items) c.as_ref-joined.ensures in
    let end : c.index.result.now ≡ get_or es i c.index.result.now = c.index.ensures ∙ ap (λ xs. get_or xs i c.index.result.now) ends in
    let begin : c.if-place-eq0.begin ≡ begin_of 0 es i =
    elim c.if-place-eq0.branch [
      | then-place-eq0 w ↦ w.begin-is ∙ ap (begin_of 0 es) {x = 0} {y = i} (omega arith)
      | else-place-eq0 w ↦ w.begin-is ∙ begins_after es i w.index-else-place-eq0.result.now (omega arith) (omega (arith, within)) (w.index-else-place-eq0.ensures ∙ ap (λ xs. get_or xs (i - 1) w.index-else-place-eq0.result.now) ends)
    ] in
    subst (λ x. IsNameAt x es i c.if-place-eq0.begin c.index.result.now) (sym text) (name_at t es i _ _ within (subst IsUtf8 text c.as_str.utf8) c.self.invariant begin end)

pub range-requires-clause-start_le_end : goal.range-requires-clause-start_le_end
range-requires-clause-start_le_end c = (at_place c).cut.order

pub range-requires-clause-start_boundary : goal.range-requires-clause-start_boundary
range-requires-clause-start_boundary c = λ h. (at_place c).cut.begin

pub range-requires-clause-end_boundary : goal.range-requires-clause-end_boundary
range-requires-clause-end_boundary c = (at_place c).cut.end

pub returns : goal.returns
returns c =
    let joined = c.self.inside.joined.value in
    let text : c.as_str.result.now ≡ joined.text.bytes.items = c.as_str.ensures.value ∙ ap (λ (j : Joined). j.text.bytes.items) c.as_ref-joined.ensures in
    let at = (at_place (goal.at.returns c).After-as_str).name in
    ap (λ ns. slice_get ns c.args.place) (sym c.self.view_is ∙ ap (λ t. names_in 0 t joined.ends.items) (sym text)) ∙ at ∙ ap Some (sym c.range.ensures.value)
