-- What is told of numbers, of each once.
use Rattle.std.proofs.Common.{◌≡◌, ◌++◌, ℕ, List, [], ◌∷◌, Bool, true, false, refl, sym, ap, flat_map, nat_eq}
use Rattle.std.proofs.Common.{Result, Ok, Err, OnOk}
use Rattle.std.specs.Prelude.{if◌then◌else◌, filter, not}
use Rattle.spv_annotate.specs.Notes.{each_once}

-- what follows from two facts of one answer
pub on_ok_both : {T E P Q R : Type 0} (r : Result T E) → (P → Q → R) → OnOk r P → OnOk r Q → OnOk r R
on_ok_both (Ok x) f p q = f p q
on_ok_both (Err y) f p q = tt

-- without a number the same is told as where nothing is told of that number
without : (told left : ℕ → List ℕ) (x : ℕ) → ((y : ℕ) → left y ≡ (if nat_eq x y then [] else told y)) → (ys : List ℕ)
    → flat_map told (filter (λ y. not (nat_eq x y)) ys) ≡ flat_map left ys
without told left x e [] = refl
without told left x e (y ∷ ys) = split (nat_eq x y) (without told left x e ys) (e y)
  where
    rest : List ℕ
    rest = filter (λ y. not (nat_eq x y)) ys

    split : (b : Bool) → flat_map told rest ≡ flat_map left ys → left y ≡ (if b then [] else told y)
        → flat_map told (if not b then y ∷ rest else rest) ≡ left y ++ flat_map left ys
    split true h f = rw (f, h) refl
    split false h f = rw (f, h) refl

-- the first number is told, and then no more
pub once_more : (told left : ℕ → List ℕ) (x : ℕ) (xs : List ℕ)
    → ((y : ℕ) → left y ≡ (if nat_eq x y then [] else told y))
    → told x ++ flat_map left (each_once xs) ≡ flat_map told (each_once (x ∷ xs))
once_more told left x xs e = ap (λ z. told x ++ z) (sym (without told left x e (each_once xs)))
