-- Steps through lists.
use Rattle.std.proofs.Common.{◌≡◌, ◌<◌, ◌+◌, ℕ, zero, suc, List, [], ◌∷◌, Some, length, drop, slice_get, get_or, refl}
use Rattle.std.proofs.Common.{ap, arith}

-- the rest of a list from one place on
pub drop_step : {A : Type 0} (xs : List A) (k : ℕ) (x : A) → slice_get xs k ≡ Some x → drop k xs ≡ x ∷ drop (k + 1) xs
drop_step [] k x e = absurd cc
drop_step (y ∷ xs) zero x e = let s : y ≡ x = cc in ap (λ z. z ∷ xs) s
drop_step (y ∷ xs) (suc k) x e = let n : suc k + 1 ≡ suc (k + 1) = omega arith in rw n (drop_step xs k x e)

pub got : (xs : List ℕ) (k : ℕ) → k < length xs → slice_get xs k ≡ Some (get_or xs k 0)
got [] k l = absurd (omega (arith, l))
got (x ∷ xs) zero l = refl
got (x ∷ xs) (suc k) l = got xs k (omega (arith, l))
