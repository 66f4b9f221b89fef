-- The parts of a type, and how many they are. [2.2.2; own: Reach] (For the code alone.)
use Rattle.std.specs.Prelude.{ℕ, List, Option, Some, None, nat_lt, if◌then◌else◌, option_and_then}
use Rattle.std.specs.Prelude.{slice_get}
use Rattle.spv_module.specs.Operand.{PlainInst}
use Rattle.spv_module.specs.Module.{plain_operands}
use Rattle.spv_type_forms.specs.declared.form.Form.{Form}
use Rattle.spv_type_forms.specs.declared.form.Form.TheVariants as form
use Rattle.spv_type_forms.specs.declared.parts.Parts.{Parts}
use Rattle.spv_type_forms.specs.declared.parts.Parts.TheVariants as parts
use Rattle.spv_type_forms.specs.Parts.{count_of, id_in, members_of, part_of}

-- the type of the member k of a struct type [3.49.6]
abbrev pub member_of : List PlainInst → ℕ → ℕ → Option ℕ
member_of is t k = option_and_then (λ ms. option_and_then id_in (slice_get ms k)) (members_of is t)

-- the type of an array's elements
abbrev pub element_in : Form → Option ℕ
element_in (form.Array e l) = Some e
element_in _ = None

-- the type of the part k, where k is below the number of parts
abbrev pub inner_part_of : List PlainInst → ℕ → ℕ → Option ℕ
inner_part_of is t k = option_and_then (λ n. if nat_lt k n then part_of is t k else None) (count_of is t)

-- the type of the part k, where the types of the parts are looked up
abbrev pub part_among : Parts → ℕ → Option ℕ
part_among (parts.Alike t) k = Some t
part_among (parts.Members ms) k = option_and_then id_in (slice_get (plain_operands ms.now) k)
part_among parts.Absent k = None
