-- What holds of the elements of a list, one by one.
use Rattle.std.proofs.Common.{◌≡◌, ◌∙◌, ℕ, zero, suc, List, [], ◌∷◌, Option, Some, None, Bool, true, false, refl, ap}
use Rattle.std.proofs.Common.{subst}
use Rattle.std.specs.Prelude.{slice_get, IsSomeAnd}
use Rattle.std.specs.Bool.{OnTrue}
use Rattle.std.proofs.lemmas.Option.{none-some, same_Some}

-- of each element and its number
abbrev pub Each : {A : Type 0} → (ℕ → A → Type 0) → List A → Type 0
Each P [] = Unit {0}
Each P (x ∷ xs) = P zero x × Each (λ n. P (suc n)) xs

pub each : {A : Type 0} (P : ℕ → A → Type 0) (xs : List A) → Each P xs → (n : ℕ) (x : A) → slice_get xs n ≡ Some x
    → P n x
each P [] h n x e = absurd (none-some x e)
each P (y ∷ ys) h zero x e = subst (P zero) (same_Some y x e) h.0
each P (y ∷ ys) h (suc n) x e = each (λ m. P (suc m)) ys h.1 n x e

-- of those that pass a test
abbrev pub Where : {A : Type 0} → (A → Bool) → (ℕ → A → Type 0) → List A → Type 0
Where test P [] = Unit {0}
Where test P (x ∷ xs) = OnTrue (test x) (P zero x) × Where test (λ n. P (suc n)) xs

pub off : false ≡ true → ⊥
off e = cc

told : (b : Bool) (A : Type 0) → OnTrue b A → b ≡ true → A
told true A a e = a
told false A a e = absurd (off e)

pub found : {A : Type 0} (test : A → Bool) (P : ℕ → A → Type 0) (xs : List A) → Where test P xs → (n : ℕ) (x : A)
    → slice_get xs n ≡ Some x → test x ≡ true → P n x
found test P [] w n x e h = absurd (none-some x e)
found test P (y ∷ ys) w zero x e h = let same : y ≡ x = same_Some y x e in
    subst (P zero) same (told (test y) (P zero y) w.0 (ap test same ∙ h))
found test P (y ∷ ys) w (suc n) x e h = found test (λ m. P (suc m)) ys w.1 n x e h

pub some_of : {A : Type 0} (Q : A → Type 0) (o : Option A) → IsSomeAnd o Q → (x : A) × (o ≡ Some x) × Q x
some_of Q None s = absurd s
some_of Q (Some x) s = (x, refl, s)
