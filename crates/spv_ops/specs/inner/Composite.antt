-- What OpCompositeConstruct asks, as a whole, and the components that a value gives. (For the code alone, and for
-- laws.)
use Rattle.std.specs.Prelude.{◌≡◌, ◌<◌, ℕ, List, Option, Some, length, nat_eq, if◌then◌else◌}
use Rattle.spv_module.specs.Operand.{PlainInst}
use Rattle.spv_type_forms.specs.declared.form.Form.{Form}
use Rattle.spv_type_forms.specs.declared.form.Form.TheVariants as form
use Rattle.spv_type_forms.specs.Form.{form_of}
use Rattle.spv_type_forms.specs.Parts.{AreParts}
use Rattle.spv_conditions.specs.Rest.{share_in, shares_of}

-- what makes a composite: two values or more that make up a vector, or the parts of a struct or array [3.49.12]
abbrev pub Constructs : List PlainInst → ℕ → List ℕ → Option Form → Type 0
Constructs is r types (Some (form.Vector c n)) = (1 < length types) × (shares_of is c types ≡ Some n)
Constructs is r types (Some form.Struct) = AreParts is r types
Constructs is r types (Some (form.Array e l)) = AreParts is r types
Constructs is r types _ = ⊥

-- How many components of a vector of component type c a value of a type gives: one if it is c, its count if it is a
-- vector of c. [3.49.12]
abbrev pub share_of : List PlainInst → ℕ → ℕ → Option ℕ
share_of is c t = if nat_eq t c then Some 1 else share_in c (form_of is t)
