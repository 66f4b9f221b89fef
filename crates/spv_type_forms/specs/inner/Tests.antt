-- Tests of the types that ids are declared with. (For the code alone.)
use Rattle.std.specs.Prelude.{ℕ, List, [], ◌∷◌, Option, Some, None, Bool, true, false, nat_eq, ◌&&◌}
use Rattle.std.specs.Prelude.{◌+◌}
use Rattle.spv_module.specs.Operand.{PlainInst}
use Rattle.spv_module.specs.Width.{type_of}
use Rattle.spv_type_forms.specs.declared.form.Form.{Form}
use Rattle.spv_type_forms.specs.declared.form.Form.TheVariants as form
use Rattle.spv_type_forms.specs.declared.form.Scalar.TheVariants as scalar
use Rattle.spv_type_forms.specs.Form.{form_of}
use Rattle.spv_type_forms.specs.Types.{pointee_in}
use Rattle.spv_type_forms.specs.Parts.{part_of}

-- is there a number that passes a test
abbrev pub passes : (ℕ → Bool) → Option ℕ → Bool
passes p None = false
passes p (Some n) = p n

-- is there a number, and is the other the same
abbrev pub are_same : Option ℕ → Option ℕ → Bool
are_same None o = false
are_same (Some n) o = passes (λ m. nat_eq m n) o

-- is an id declared with a type
abbrev pub has_type : List PlainInst → ℕ → ℕ → Bool
has_type is t x = passes (λ u. nat_eq u t) (type_of is x)

-- is an id declared with the type that a pointer type points to
abbrev pub has_pointee : List PlainInst → ℕ → ℕ → Bool
has_pointee is r x = passes (λ t. passes (λ u. nat_eq u t) (pointee_in (form_of is r))) (type_of is x)

-- does an id stand for an int
abbrev pub is_int_form : Option Form → Bool
is_int_form (Some (form.Scalar (scalar.Int w))) = true
is_int_form _ = false

abbrev pub has_int : List PlainInst → ℕ → Bool
has_int is x = passes (λ t. is_int_form (form_of is t)) (type_of is x)

-- are ids declared with the types of the parts from k on
abbrev pub are_parts_from : List PlainInst → ℕ → ℕ → List ℕ → Bool
are_parts_from is t k [] = true
are_parts_from is t k (x ∷ xs) = are_same (part_of is t k) (type_of is x) && are_parts_from is t (k + 1) xs
