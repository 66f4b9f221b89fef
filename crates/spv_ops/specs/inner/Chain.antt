-- What access chains ask, as a whole: r is the result type, the types of the value operands are given in order, and
-- then the ids of the value operands, since constants among the indexes tell members. (For the code alone, and for
-- laws.) [3.49.8]
use Rattle.std.specs.Prelude.{ℕ, List, ◌∷◌}
use Rattle.std.specs.List.{AllByRecursion}
use Rattle.spv_module.specs.Operand.{PlainInst}
use Rattle.spv_type_forms.specs.Types.{IsSomeInt, IsPointer}
use Rattle.spv_type_forms.specs.Reach.{ReachesType, ChoosesParts}

-- The indexes lead from what the pointer o points to, to what r points to, of the same storage class. [3.49.8]
pub record LeadsByPointer (is : List PlainInst) (r o : ℕ) (xs : List ℕ) : Type 0 where
  pub class : ℕ
  pub from : ℕ
  pub to : ℕ
  pub base : IsPointer is o class from
  pub leads : (ks : List ℕ) × ChoosesParts is from xs ks × ReachesType is from ks to
  pub result : IsPointer is r class to

-- OpAccessChain: a base, and ints as indexes; OpPtrAccessChain: a base, an element and indexes, all ints. [3.49.8]
abbrev pub Chains : List PlainInst → ℕ → List ℕ → List ℕ → Type 0
Chains is r (o ∷ types) (x ∷ xs) = AllByRecursion (IsSomeInt is) types × LeadsByPointer is r o xs
Chains is r _ _ = ⊥

abbrev pub ChainsByElement : List PlainInst → ℕ → List ℕ → List ℕ → Type 0
ChainsByElement is r (o ∷ p ∷ types) (x ∷ y ∷ xs) = IsSomeInt is p × AllByRecursion (IsSomeInt is) types
    × LeadsByPointer is r o xs
ChainsByElement is r _ _ = ⊥
