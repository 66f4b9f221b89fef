-- All codes, one after another.
use Rattle.std.proofs.Common.{◌≡◌, ◌<◌, ◌≤◌, ◌+◌, ◌++◌, ◌∙◌, ℕ, zero, suc, List, [], ◌∷◌, Some, None, true, nat_le, flat_map, length, take, slice_get, refl, ap, arith, append-nil}
use Rattle.std.proofs.lemmas.Bool.{leb-true}
use Rattle.std.proofs.lemmas.Grind.{flat_map-append}
use Rattle.spv_rules.specs.Codes.{all_codes}
use Rattle.spv_rules.specs.Table.{rows}
use Rattle.spv_rules.specs.declared.errors.AnyCode.{AnyCode}

next : {A : Type 0} (xs : List A) (k : ℕ) (x : A) → slice_get xs k ≡ Some x → take (k + 1) xs ≡ take k xs ++ (x ∷ [])
next [] k x e = absurd cc
next (y ∷ xs) zero x e = let s : y ≡ x = cc in ap (λ z. z ∷ []) s
next (y ∷ xs) (suc k) x e = let n : suc k + 1 ≡ suc (k + 1) = omega arith in rw n (ap (λ z. y ∷ z) (next xs k x e))

all : {A : Type 0} (xs : List A) (k : ℕ) → slice_get xs k ≡ None → take k xs ≡ xs
all [] zero e = refl
all [] (suc k) e = refl
all (y ∷ xs) zero e = absurd cc
all (y ∷ xs) (suc k) e = ap (λ z. y ∷ z) (all xs k e)

within : {A : Type 0} (xs : List A) (k : ℕ) (x : A) → slice_get xs k ≡ Some x → k < length xs
within [] k x e = absurd cc
within (y ∷ xs) zero x e = omega arith
within (y ∷ xs) (suc k) x e = let h = within xs k x e in omega (arith, h)

-- there are few codes
some_codes : nat_le (length all_codes) 1000 ≡ true
unfolding all_codes rows
some_codes = refl

pub few_codes : length all_codes ≤ 1000
few_codes = leb-true (length all_codes) 1000 some_codes

pub code_within : (k : ℕ) (code : AnyCode) → slice_get all_codes k ≡ Some code → k < length all_codes
code_within k code e = within all_codes k code e

-- what is told of the codes before a place, and of one more
pub one_more : (told : AnyCode → List ℕ) (k : ℕ) (code : AnyCode) → slice_get all_codes k ≡ Some code
    → flat_map told (take (k + 1) all_codes) ≡ flat_map told (take k all_codes) ++ told code
one_more told k code e =
    ap (flat_map told) (next all_codes k code e) ∙ (flat_map-append told (take k all_codes) (code ∷ []) ∙ ap (λ z. flat_map told (take k all_codes) ++ z) (append-nil (told code)))

pub every_one : (told : AnyCode → List ℕ) (k : ℕ) → slice_get all_codes k ≡ None → flat_map told (take k all_codes) ≡ flat_map told all_codes
every_one told k e = ap (flat_map told) (all all_codes k e)
