-- What the code finds of functions and arguments, and of the parts of constants. (For the code alone.)
use Rattle.std.specs.Prelude.{◌≡◌, ◌+◌, ℕ, List, [], ◌∷◌, Option, Some, None, Bool, true, false}
use Rattle.std.specs.Prelude.{nat_eq, ◌&&◌, slice_get}
use Rattle.spv_module.specs.Operand.{Plain, Id, PlainInst, type_in}
use Rattle.spv_module.specs.Width.{definition_of}
use Rattle.spv_layout.specs.Place.{IsOfFunction}
use Rattle.spv_type_forms.specs.Parts.{part_of}
use Rattle.spv_type_forms.specs.inner.Tests as tests
use Rattle.spv_type_rules.specs.Constant.{is_part_opcode}

-- instruction n is of the function whose OpFunction is d, of number f, and of no other
pub record IsOfOne (is : List PlainInst) (n f : ℕ) (d : PlainInst) : Type 0 where
  pub of : IsOfFunction is n f
  pub one : (g : ℕ) → IsOfFunction is n g → g ≡ f
  pub there : slice_get is f ≡ Some d

abbrev pub has_type : List PlainInst → ℕ → ℕ → Bool
has_type is t x = tests.has_type is t x

-- are ids declared with the types that operands are, one for each
abbrev pub are_typed : List PlainInst → List ℕ → List Plain → Bool
are_typed is [] [] = true
are_typed is (x ∷ xs) (Id t ∷ ts) = has_type is t x && are_typed is xs ts
are_typed is _ _ = false

-- are operands the id r, and then the types that ids are declared with
abbrev pub has_signature : List PlainInst → ℕ → List Plain → List ℕ → Bool
has_signature is r (Id t ∷ ts) xs = nat_eq t r && are_typed is xs ts
has_signature is r _ xs = false

-- does an instruction declare a value of a part's type, of which a composite constant may be made
abbrev pub is_typed_part : Bool → Option ℕ → Option PlainInst → Bool
is_typed_part spec part None = false
is_typed_part spec part (Some i) = tests.are_same part (type_in i.operands) && is_part_opcode spec i.opcode

-- do ids stand for such, for the parts of a type from k on
abbrev pub are_typed_parts : List PlainInst → Bool → ℕ → ℕ → List ℕ → Bool
are_typed_parts is spec t k [] = true
are_typed_parts is spec t k (x ∷ xs) =
    is_typed_part spec (part_of is t k) (definition_of is x) && are_typed_parts is spec t (k + 1) xs
