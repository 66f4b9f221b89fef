use Rattle.std.proofs.Common.{ℕ, List, ap, map, take, length, min, refl, ◌<◌, ◌^◌, arith, ◌∙◌}
use Rattle.spv_table.specs.declared.table.Entry.{Entry}
use Rattle.spv_table.specs.Table.{Table}
use Rattle.spv_table.specs.inner.Form.{form_of}
use Rattle.spv_table.specs.inner.Results.{results_of}
use Rattle.spv_table.specs.inner.Front.{place_front, AreFronts}
use Rattle.spv_table.proofs.Fronted.{fronts_found}
use Rattle.spv_table.proofs.table.Table.new.Goals as goal

pub invariant_of-result : goal.invariant_of-result
invariant_of-result c =
    let placed = rw c.as_slice.ensures.value at c.in_ok-places.ensures in
    let G : Table = record { kinds = c.args.sorts.items; entries = c.args.entries.items } in
    let forms = c.in_ok-forms.ensures ∙ ap (map form_of) c.as_slice-2.ensures.value in
    let results = c.in_ok-results.ensures G (c.as_slice-3.ensures.value ∙ forms) ∙ ap (map (λ e. results_of G e.1)) c.as_slice-4.ensures.value in
    let ps = c.in_ok-places.places.items in
    let fronted = c.fronted_of-fronted.ensures ∙ ap (λ (xs : List ℕ). take (min (length xs) 331) xs) c.as_slice-5.ensures.value in
    let fronts =
    c.in_ok-fronts.ensures G (c.as_slice-6.ensures.value ∙ forms)
    ∙ (ap (λ (es : List (ℕ × Entry)). map (place_front G es) c.fronted_of-fronted.result.now) c.as_slice-7.ensures.value ∙ ap (map (place_front G G.entries)) fronted) in
    let few : length c.args.entries.items < 2 ^ 32 = omega arith in
    let all : AreFronts G c.in_ok-fronts.fronts.items = record { at = fronts_found G ps c.in_ok-fronts.fronts.items (min (length ps) 331) few placed refl fronts } in
    rw (c.from_vec.ensures, c.from_vec-2.ensures, c.from_vec-3.ensures, c.from_vec-4.ensures, c.in_ok-sorts.ensures, c.in_ok-entries.ensures)
    (c.requires, placed, forms, results, all)
