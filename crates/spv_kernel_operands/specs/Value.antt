-- The values of ids: those of constants of int type alone. [3.49.7; own]
use Rattle.std.specs.Prelude.{ℕ, List, Bool, true, false, not, Option, Some, None, nat_eq, bit_and}
use Rattle.std.specs.Prelude.{if◌then◌else◌, option_and_then, slice_get}
use Rattle.spv_module.specs.declared.opcode.TheConstants as opcode
use Rattle.spv_module.specs.Operand.{Plain, PlainInst, type_in}
use Rattle.spv_module.specs.Width.{definition_of}
use Rattle.spv_type_forms.specs.declared.form.Form.{Form}
use Rattle.spv_type_forms.specs.declared.form.Form.TheVariants as form
use Rattle.spv_type_forms.specs.declared.form.Scalar.TheVariants as scalar
use Rattle.spv_type_forms.specs.Form.{form_of}
use Rattle.spv_type_forms.specs.Parts.{id_in, number_in}

-- the number of an OpConstant (43), and 0 of an OpConstantNull (46) [3.49.7]
abbrev pub number_of : PlainInst → Option ℕ
number_of i = if nat_eq i.opcode opcode.CONSTANT then number_in i.operands
    else (if nat_eq i.opcode opcode.CONSTANT_NULL then Some 0 else None)

abbrev pub is_int : Option Form → Bool
is_int (Some (form.Scalar (scalar.Int w))) = true
is_int _ = false

-- The value of an id: that number, if the type that its definition is declared with is an int type. No other id has a
-- value: no specialization constant, no OpUndef, and nothing that is computed. [own]
abbrev pub has_int_type : List PlainInst → PlainInst → Bool
has_int_type is i = is_int (option_and_then (form_of is) (type_in i.operands))

abbrev pub value_by : List PlainInst → PlainInst → Option ℕ
value_by is i = if has_int_type is i then number_of i else None

abbrev pub value_of : List PlainInst → ℕ → Option ℕ
value_of is x = option_and_then (value_by is) (definition_of is x)

-- the id that the operand of a number is, from 0, and its value
abbrev pub id_at : List Plain → ℕ → Option ℕ
id_at os k = option_and_then id_in (slice_get os k)

abbrev pub value_at : List PlainInst → List Plain → ℕ → Option ℕ
value_at is os k = option_and_then (value_of is) (id_at os k)

-- a number has one of the bits of a mask
abbrev pub has_bit : ℕ → ℕ → Bool
has_bit n mask = not (nat_eq (bit_and n mask) 0)
