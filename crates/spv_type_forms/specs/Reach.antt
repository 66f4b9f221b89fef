-- Reach: which type a list of indexes reaches. [own; the indexes of 3.49.8 OpAccessChain and 3.49.12
-- OpCompositeExtract]
use Rattle.std.specs.Prelude.{◌≡◌, ◌≢◌, ◌<◌, ℕ, List, [], ◌∷◌, Some}
use Rattle.spv_module.specs.Operand.{PlainInst}
use Rattle.spv_type_forms.specs.declared.form.Form.TheVariants as form
use Rattle.spv_type_forms.specs.Form.{form_of}
use Rattle.spv_type_forms.specs.Parts.{part_of, count_of, constant_of}

-- A type reaches itself by no index, and by k and further indexes what its part k reaches by these. [own: Reach]
pub data ReachesType (is : List PlainInst) : ℕ → List ℕ → ℕ → Type 0 where
  itself : (t : ℕ) → ReachesType is t [] t
  by_part : (t k u v : ℕ) (ks : List ℕ) → part_of is t k ≡ Some u → ReachesType is u ks v → ReachesType is t (k ∷ ks) v

-- Each index is below the count, length or number of members at its place. [3.49.12]
pub data AreWithin (is : List PlainInst) : ℕ → List ℕ → Type 0 where
  none : (t : ℕ) → AreWithin is t []
  more : (t k u n : ℕ) (ks : List ℕ) → count_of is t ≡ Some n → k < n → part_of is t k ≡ Some u
      → AreWithin is u ks → AreWithin is t (k ∷ ks)

-- The indexes of an access chain, which are ids, choose parts: at a struct the value of an OpConstant, which is that of
-- a member, else any part. [3.49.8]
pub data ChoosesParts (is : List PlainInst) : ℕ → List ℕ → List ℕ → Type 0 where
  none : (t : ℕ) → ChoosesParts is t [] []
  member : (t x k u : ℕ) (xs ks : List ℕ) → form_of is t ≡ Some form.Struct → constant_of is x ≡ Some k
      → part_of is t k ≡ Some u → ChoosesParts is u xs ks → ChoosesParts is t (x ∷ xs) (k ∷ ks)
  element : (t x k u : ℕ) (xs ks : List ℕ) → form_of is t ≢ Some form.Struct
      → part_of is t k ≡ Some u → ChoosesParts is u xs ks → ChoosesParts is t (x ∷ xs) (k ∷ ks)
