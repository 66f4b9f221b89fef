-- What is noted of opcodes.
use Rattle.std.proofs.Common.{◌≡◌, ◌⊎◌, ◌∙◌, ℕ, zero, suc, List, [], ◌∷◌, Some, false, true, replicate, refl, sym, ap, inl, inr}
use Rattle.std.specs.Prelude.{slice_get, slice_set}
use Rattle.spv_standard.specs.declared.asked.Asked.{Asked}

-- at first nothing is known
pub nothing_noted : (n k : ℕ) (b a : Asked) → b.is_known ≡ false → slice_get (replicate n b) k ≡ Some a
    → a.is_known ≡ true → ⊥
nothing_noted zero k b a f e t = cc
nothing_noted (suc n) zero b a f e t =
    let q : b ≡ a = cc in
    let no : false ≡ true = sym f ∙ (rw q t) in cc
nothing_noted (suc n) (suc k) b a f e t = nothing_noted n k b a f e t

-- a note more
pub one_noted : (notes : List Asked) (b : Asked) (p k : ℕ) (a : Asked) → slice_get (slice_set notes p b) k ≡ Some a
    → (slice_get notes k ≡ Some a) ⊎ ((k ≡ p) × (a ≡ b))
one_noted [] b p k a e = cc
one_noted (o ∷ os) b zero zero a e = inr (refl, (let q : b ≡ a = cc in sym q))
one_noted (o ∷ os) b zero (suc k) a e = inl e
one_noted (o ∷ os) b (suc p) zero a e = inl e
one_noted (o ∷ os) b (suc p) (suc k) a e = elim (one_noted os b p k a e) [
  | inl old ↦ inl old
  | inr own ↦ inr (ap suc own.0, own.1)
]
