use Rattle.std.proofs.Common.{◌≡◌, List, Some, option_map, option_and_then, slice_get, length, refl, sym, ap, ◌∙◌}
use Rattle.std.specs.List.{find}
use Rattle.std.specs.Str.{bytes_eq}
use Rattle.std.proofs.lemmas.Option.{slice_get_read, slice_get_past}
use Rattle.spv_table.specs.declared.row.EnumerantRow.{EnumerantRow}
use Rattle.spv_table.specs.declared.table.Enumerant.{Enumerant}
use Rattle.spv_table.specs.Lookups.{value_named}
use Rattle.spv_table.specs.Rows.{enumerant_in}
use Rattle.spv_table.specs.inner.Rows.{told}
use Rattle.spv_table.proofs.Found.{found_at}
use Rattle.spv_table.proofs.Told.{value_made}
use Rattle.spv_table.proofs.enumerant_rows.EnumerantRows.value.Goals as goal

pub place_among-requires-clause-ascii : goal.place_among-requires-clause-ascii
place_among-requires-clause-ascii c = c.self.invariant.0

pub place_among-requires-clause-finds : goal.place_among-requires-clause-finds
place_among-requires-clause-finds c = c.self.invariant.1.finds

pub returns-in_err-place : goal.returns-in_err-place
returns-in_err-place c =
    let i = c.self.inside in
    let q = c.args.name.now in
    let found = found_at (λ (r : EnumerantRow). bytes_eq q (told i.text.now (λ (x : EnumerantRow). x.1) r)) i.rows.now _ c.in_err-place.ensures in
    rw c.from_residual.ensures
    (sym (ap (option_map (λ (r : EnumerantRow). r.0)) found) ∙ value_made i.text.now i.numbers.now i.names.now q i.rows.now ∙ ap (λ (es : List Enumerant). value_named es q) c.self.view_is)

pub returns-in-Some : goal.returns-in-Some
returns-in-Some c =
    let i = c.self.inside in
    let q = c.args.name.now in
    let l = c.in-Some.ensures.lookup in
    let found = found_at (λ (r : EnumerantRow). bytes_eq q (told i.text.now (λ (x : EnumerantRow). x.1) r)) i.rows.now _ c.in_ok-place.ensures in
    let at : slice_get i.rows.now c.in_ok-place.place ≡ Some c.in-Some.row.now = slice_get_read i.rows.now (length i.rows.now) c.in_ok-place.place c.in-Some.row.now refl l.3.0 l.1 in
    sym (ap (option_map (λ (r : EnumerantRow). r.0)) (found ∙ at)) ∙ value_made i.text.now i.numbers.now i.names.now q i.rows.now ∙ ap (λ (es : List Enumerant). value_named es q) c.self.view_is

pub returns-in-None : goal.returns-in-None
returns-in-None c =
    let i = c.self.inside in
    let q = c.args.name.now in
    let found = found_at (λ (r : EnumerantRow). bytes_eq q (told i.text.now (λ (x : EnumerantRow). x.1) r)) i.rows.now _ c.in_ok-place.ensures in
    let at = slice_get_past i.rows.now c.in_ok-place.place c.in-None.ensures.lookup.3 in
    sym (ap (option_map (λ (r : EnumerantRow). r.0)) (found ∙ at)) ∙ value_made i.text.now i.numbers.now i.names.now q i.rows.now ∙ ap (λ (es : List Enumerant). value_named es q) c.self.view_is
