-- What the instruction at a place calls.
use Rattle.std.proofs.Common.{◌≡◌, ◌<◌, ◌≤◌, ℕ, List, Option, Some, None, map, length, get_or, refl, sym, ap, ◌∙◌}
use Rattle.std.specs.Prelude.{slice_get, option_and_then, option_map}
use Rattle.std.proofs.Math.Path.{fun_ext}
use Rattle.std.proofs.lemmas.Option.{slice_get-map, slice_get_past, slice_get_read}
use Rattle.spv_module.specs.declared.module.Inst.{Inst}
use Rattle.spv_module.specs.Module.{plain_inst}
use Rattle.spv_extended.specs.declared.call.Call.{Call}
use Rattle.spv_extended.specs.declared.set.Set.{Set}
use Rattle.spv_extended.specs.Call.{call_at, call_of}
use Rattle.spv_extended.specs.Sets.{set_in}

at_place : (f : ℕ → Set) (xs : List Inst) (k : ℕ) (x : Inst) → k < length xs → x ≡ get_or xs k x → ((y : ℕ) → f y ≡ set_in (map plain_inst xs) y) → call_of f (plain_inst x) ≡ call_at (map plain_inst xs) k
at_place f xs k x within is same =
    let there : slice_get (map plain_inst xs) k ≡ Some (plain_inst x) = slice_get-map plain_inst xs k ∙ ap (option_map plain_inst) (slice_get_read xs (length xs) k x refl within is) in
    ap (λ (sets : ℕ → Set). call_of sets (plain_inst x)) (fun_ext same) ∙ sym (ap (λ o. option_and_then (call_of (set_in (map plain_inst xs))) o) there)

pub called : (f : ℕ → Set) (xs ys : List Inst) (k : ℕ) (x : Inst) (o : Option Call) → xs ≡ ys → k < length xs → x ≡ get_or xs k x → ((y : ℕ) → f y ≡ set_in (map plain_inst xs) y)
    → o ≡ call_of f (plain_inst x) → o ≡ call_at (map plain_inst ys) k
called f xs ys k x o e within is same told = told ∙ (at_place f xs k x within is same ∙ ap (λ (l : List Inst). call_at (map plain_inst l) k) e)

none_at : (xs : List Inst) (k : ℕ) → length xs ≤ k → None ≡ call_at (map plain_inst xs) k
none_at xs k past =
    let there = slice_get-map plain_inst xs k ∙ ap (option_map plain_inst) (slice_get_past xs k past) in
    sym (ap (λ o. option_and_then (call_of (set_in (map plain_inst xs))) o) there)

pub not_called : (xs ys : List Inst) (k : ℕ) → xs ≡ ys → length xs ≤ k → None ≡ call_at (map plain_inst ys) k
not_called xs ys k e past = none_at xs k past ∙ ap (λ (l : List Inst). call_at (map plain_inst l) k) e
