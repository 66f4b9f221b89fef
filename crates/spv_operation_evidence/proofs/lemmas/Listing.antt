-- Lists, one item after another.
use Rattle.std.proofs.Common.{◌≡◌, ◌∙◌, ◌≤◌, ◌+◌, ◌++◌, ℕ, zero, suc, List, [], ◌∷◌, Some, sym, ap, refl, length, take}
use Rattle.std.proofs.Common.{arith, append_assoc}
use Rattle.std.specs.Prelude.{slice_get}
use Rattle.std.proofs.lemmas.Option.{none-some}
use Rattle.spv_readings.specs.declared.values.Value.{Value}
use Rattle.spv_readings.specs.Values.{types_in}

-- one more item
take_next : {A : Type 0} → (xs : List A) (k : ℕ) (a : A) → slice_get xs k ≡ Some a
    → take (k + 1) xs ≡ take k xs ++ a ∷ []
take_next [] k a e = absurd (none-some a e)
take_next (x ∷ xs) zero a e = ap (λ z. z ∷ []) (let q : x ≡ a = cc in q)
take_next (x ∷ xs) (suc k) a e = let next : suc k + 1 ≡ suc (k + 1) = omega arith in
    rw next (ap (λ zs. x ∷ zs) (take_next xs k a e))

all_taken : {A : Type 0} → (xs : List A) (k : ℕ) → length xs ≤ k → take k xs ≡ xs
all_taken [] zero l = refl
all_taken [] (suc k) l = refl
all_taken (x ∷ xs) zero l = absurd (let m : suc (length xs) ≤ 0 = l in omega arith)
all_taken (x ∷ xs) (suc k) l = ap (λ zs. x ∷ zs) (all_taken xs k (let m : suc (length xs) ≤ suc k = l in omega arith))

-- types after others
pub item_next : (xs : List ℕ) (k t : ℕ) (front ts : List ℕ) → slice_get xs k ≡ Some t → ts ≡ front ++ take k xs
    → ts ++ t ∷ [] ≡ front ++ take (k + 1) xs
item_next xs k t front ts e h =
    ap (λ us. us ++ t ∷ []) h ∙ append_assoc front (take k xs) (t ∷ [])
    ∙ ap (λ us. front ++ us) (sym (take_next xs k t e))

pub items_all : (xs : List ℕ) (k : ℕ) (front ts : List ℕ) → length xs ≤ k → ts ≡ front ++ take k xs → ts ≡ front ++ xs
items_all xs k front ts l h = h ∙ ap (λ us. front ++ us) (all_taken xs k l)

-- those of values
types_end : (vs : List Value) (v : Value) → types_in (vs ++ v ∷ []) ≡ types_in vs ++ v.of ∷ []
types_end [] v = refl
types_end (w ∷ vs) v = ap (λ ts. w.of ∷ ts) (types_end vs v)

pub types_next : (xs : List Value) (k : ℕ) (v : Value) (ts : List ℕ) → slice_get xs k ≡ Some v
    → ts ≡ types_in (take k xs) → ts ++ v.of ∷ [] ≡ types_in (take (k + 1) xs)
types_next xs k v ts e h =
    ap (λ us. us ++ v.of ∷ []) h ∙ sym (ap types_in (take_next xs k v e) ∙ types_end (take k xs) v)

pub types_all : (xs : List Value) (k : ℕ) (ts : List ℕ) → length xs ≤ k → ts ≡ types_in (take k xs) → ts ≡ types_in xs
types_all xs k ts l h = h ∙ ap types_in (all_taken xs k l)
