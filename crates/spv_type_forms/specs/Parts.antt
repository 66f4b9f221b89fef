-- The parts of a type, and how many they are. [2.2.2; own: Reach]
use Rattle.std.specs.Prelude.{◌+◌, ◌*◌, ℕ, List, [], ◌∷◌, Option, Some, None, nat_eq, ◌||◌}
use Rattle.std.specs.Prelude.{if◌then◌else◌, option_and_then, option_map, slice_get, length, ◌≡◌}
use Rattle.spv_module.specs.declared.opcode.TheConstants as opcode
use Rattle.spv_module.specs.Operand.{Plain, OfType, Result, Id, Number, PlainInst}
use Rattle.spv_module.specs.Width.{definition_of}
use Rattle.spv_type_forms.specs.declared.form.Form.{Form}
use Rattle.spv_type_forms.specs.declared.form.Form.TheVariants as form
use Rattle.spv_type_forms.specs.Form.{form_of}

-- the number of an OpConstant, all its 64 bits: %x = OpConstant %t low high; that of an OpConstant or OpSpecConstant,
-- of the latter the one that stands there [3.49.7; own]
abbrev pub number_in : List Plain → Option ℕ
number_in (OfType t ∷ Result x ∷ Number low high words ∷ _) = Some (low + 4294967296 * high)
number_in _ = None

abbrev pub constant_of : List PlainInst → ℕ → Option ℕ
constant_of is x = option_and_then (λ i. if nat_eq i.opcode opcode.CONSTANT then number_in i.operands else None)
    (definition_of is x)

abbrev pub length_of : List PlainInst → ℕ → Option ℕ
length_of is x = option_and_then (λ i.
    if nat_eq i.opcode opcode.CONSTANT || nat_eq i.opcode opcode.SPEC_CONSTANT then number_in i.operands else None)
    (definition_of is x)

-- what follows the result: %t = OpTypeStruct %a %b ..; the members of a struct type: what follows the result in its
-- definition; the id of an operand that is one [3.49.6; own]
abbrev pub after_result : List Plain → List Plain
after_result (Result t ∷ os) = os
after_result _ = []

abbrev pub members_of : List PlainInst → ℕ → Option (List Plain)
members_of is t = option_map (λ i. after_result i.operands) (definition_of is t)

abbrev pub id_in : Plain → Option ℕ
id_in (Id x) = Some x
id_in _ = None

-- The type of the part k, and that of the type that an id declares: a vector's component type, an array's element type,
-- that of the member k of a struct type. [2.2.2; the members of 3.49.6]
abbrev pub part_in : List PlainInst → ℕ → ℕ → Form → Option ℕ
part_in is t k (form.Vector c n) = Some c
part_in is t k (form.Array e l) = Some e
part_in is t k form.Struct = option_and_then (λ ms. option_and_then id_in (slice_get ms k)) (members_of is t)
part_in is t k _ = None

abbrev pub part_of : List PlainInst → ℕ → ℕ → Option ℕ
part_of is t k = option_and_then (part_in is t k) (form_of is t)

-- How many parts a type has, or that of an id: a vector's count, an array's length, a struct's members. [2.2.2]
abbrev pub count_in : List PlainInst → ℕ → Form → Option ℕ
count_in is t (form.Vector c n) = Some n
count_in is t (form.Array e l) = length_of is l
count_in is t form.Struct = option_map (λ ms. length ms) (members_of is t)
count_in is t _ = None

abbrev pub count_of : List PlainInst → ℕ → Option ℕ
count_of is t = option_and_then (count_in is t) (form_of is t)

-- The parts from k on have these types in order; all parts of a type have these types in order. [2.2.2]
abbrev pub ArePartsFrom : List PlainInst → ℕ → ℕ → List ℕ → Type 0
ArePartsFrom is t k [] = Unit {0}
ArePartsFrom is t k (u ∷ us) = (part_of is t k ≡ Some u) × ArePartsFrom is t (k + 1) us

abbrev pub AreParts : List PlainInst → ℕ → List ℕ → Type 0
AreParts is t us = (count_of is t ≡ Some (length us)) × ArePartsFrom is t 0 us
