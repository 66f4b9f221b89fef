-- The set of an id, with one more instruction in front.
use Rattle.std.proofs.Common.{◌≡◌, ◌<◌, ◌≤◌, ◌+◌, ◌-◌, ℕ, Bool, true, false, List, ◌∷◌, Option, Some, None, map, length, drop, get_or, nat_eq, if◌then◌else◌, unwrap_or, sym, ap, ◌∙◌, arith}
use Rattle.std.specs.Ordering.{nat_cmp, is_eq}
use Rattle.std.proofs.lemmas.Bool.Decides.{nat_tests}
use Rattle.std.proofs.lemmas.List.{drop_more}
use Rattle.spv_module.specs.declared.module.Inst.{Inst}
use Rattle.spv_module.specs.Module.{plain_inst}
use Rattle.spv_extended.specs.declared.set.Set.{Set}
use Rattle.spv_extended.specs.declared.set.Set.TheVariants.{Other}
use Rattle.spv_extended.specs.Sets.{set_in, imported_by, or_later}

same_number : (a b : ℕ) → is_eq (nat_cmp a b) ≡ nat_eq a b
same_number a b = grind (arith, nat_tests)

front_at : (xs : List Inst) (i : ℕ) (x : Inst) → 0 < i → i ≤ length xs → x ≡ get_or xs (i - 1) x → drop (i - 1) xs ≡ x ∷ drop i xs
front_at xs i x some within is =
    let next : i - 1 + 1 ≡ i = omega arith in
    drop_more xs (i - 1) x (omega arith) ∙ (ap (λ n. get_or xs (i - 1) x ∷ drop n xs) next ∙ ap (λ y. y ∷ drop i xs) (sym is))

set_front : (xs : List Inst) (i : ℕ) (x : Inst) (o : Option (ℕ × Set)) (y : ℕ) → 0 < i → i ≤ length xs → x ≡ get_or xs (i - 1) x → o ≡ imported_by (plain_inst x)
    → set_in (map plain_inst (drop (i - 1) xs)) y ≡ or_later y o (set_in (map plain_inst (drop i xs)) y)
set_front xs i x o y some within is named =
    ap (λ zs. set_in (map plain_inst zs) y) (front_at xs i x some within is) ∙ ap (λ p. or_later y p (set_in (map plain_inst (drop i xs)) y)) (sym named)

pub set_more : (xs : List Inst) (i : ℕ) (x : Inst) (id : ℕ) (s : Set) (old new : Option Set) (y : ℕ) → 0 < i → i ≤ length xs → x ≡ get_or xs (i - 1) x → Some (id, s) ≡ imported_by (plain_inst x)
    → unwrap_or old Other ≡ set_in (map plain_inst (drop i xs)) y → new ≡ (if is_eq (nat_cmp id y) then Some s else old) → unwrap_or new Other ≡ set_in (map plain_inst (drop (i - 1) xs)) y
set_more xs i x id s old new y some within is named before now =
    by (nat_eq id y) (now ∙ ap (λ b. if b then Some s else old) (same_number id y)) (set_front xs i x (Some (id, s)) y some within is named)
  where
    by : (b : Bool) → new ≡ (if b then Some s else old) → set_in (map plain_inst (drop (i - 1) xs)) y ≡ (if b then s else set_in (map plain_inst (drop i xs)) y)
        → unwrap_or new Other ≡ set_in (map plain_inst (drop (i - 1) xs)) y
    by true e f = ap (λ o. unwrap_or o Other) e ∙ sym f
    by false e f = ap (λ o. unwrap_or o Other) e ∙ (before ∙ sym f)

pub set_same : (xs : List Inst) (i : ℕ) (x : Inst) (s : Set) (y : ℕ) → 0 < i → i ≤ length xs → x ≡ get_or xs (i - 1) x → None ≡ imported_by (plain_inst x)
    → s ≡ set_in (map plain_inst (drop i xs)) y → s ≡ set_in (map plain_inst (drop (i - 1) xs)) y
set_same xs i x s y some within is named before = before ∙ sym (set_front xs i x None y some within is named)
