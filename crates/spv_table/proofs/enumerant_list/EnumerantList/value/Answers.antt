use Rattle.std.proofs.Common.{◌≡◌, Some, option_map, slice_get, length, refl, sym, ap, ◌∙◌}
use Rattle.std.proofs.lemmas.Option.{slice_get_read}
use Rattle.std.specs.Str.{bytes_eq}
use Rattle.spv_table.specs.declared.table.Enumerant.{Enumerant}
use Rattle.spv_table.specs.Lookups.{value_named}
use Rattle.spv_table.proofs.Found.{found_at}
use Rattle.spv_table.proofs.enumerant_list.EnumerantList.value.Goals as goal

pub returns-in_err-place : goal.returns-in_err-place
returns-in_err-place c =
    let q = c.args.name.now in
    let found = found_at (λ (e : Enumerant). bytes_eq q e.name) c.as_slice.result.now _ c.in_err-place.ensures in
    rw c.from_residual.ensures (sym (ap (option_map (λ (e : Enumerant). e.value)) found) ∙ ap (λ es. value_named es q) (c.as_slice.ensures.value ∙ c.self.view_is))

pub returns-in-Some : goal.returns-in-Some
returns-in-Some c =
    let q = c.args.name.now in
    let found = found_at (λ (e : Enumerant). bytes_eq q e.name) c.as_slice.result.now _ c.in_ok-place.ensures in
    let at : slice_get c.as_slice.result.now c.in_ok-place.place ≡ Some c.in-Some.enumerant.now = ap (λ es. slice_get es c.in_ok-place.place) (c.as_slice.ensures.value ∙ sym c.deref.ensures.value) ∙ slice_get_read c.deref.result.now (length c.deref.result.now) c.in_ok-place.place _ refl c.in-Some.ensures.lookup.3.0 c.in-Some.ensures.lookup.1 in
    sym (ap (option_map (λ (e : Enumerant). e.value)) (found ∙ at)) ∙ ap (λ es. value_named es q) (c.as_slice.ensures.value ∙ c.self.view_is)
