-- The text of one operand. (Own.)
use Rattle.std.specs.Prelude.{◌≡◌, ◌+◌, ◌*◌, ◌++◌, ℕ, List, [], ◌∷◌, Option, Some, None, Bool}
use Rattle.std.specs.Prelude.{true, false, not, nat_eq, is_some, if◌then◌else◌, option_map, option_and_then}
use Rattle.std.specs.Prelude.{unwrap_or, bytes_eq, codes, decimal}
use Rattle.spv_table.specs.Table.{Table, Sort, kind_of}
use Rattle.spv_table.specs.Lookups.{value_named}
use Rattle.spv_module.specs.declared.opcode.TheConstants.{TYPE_FLOAT}
use Rattle.spv_module.specs.Operand.{Plain, OfType, Result, Id, Word, Number, Text, Value, Mask, Argument, Mention}
use Rattle.spv_module.specs.Operand.{PlainInst, Context, result_in, type_in}
use Rattle.spv_module.specs.Width.{definition_of, type_of, first_id}
use Rattle.spv_module.specs.Shape.{Slot}
use Rattle.spv_inst.specs.Reading.{enumerants_at}
use Rattle.spv_lines.specs.Digits.{hex_digits}
use Rattle.spv_lines.specs.Name.{Names, NamesMask, shown_value, shown_mask}

-- `%7` [own]
abbrev pub id_text : ℕ → List ℕ
id_text x = 37 ∷ decimal x

-- `"`, `\` and a line feed are escaped, all other octets stand for themselves [own]
abbrev pub escaped : List ℕ → List ℕ
escaped [] = []
escaped (b ∷ t) =
    (if nat_eq b 34 then codes
    "\\\"" else (if nat_eq b 92 then codes "\\\\" else (if nat_eq b 10 then codes "\\n" else b ∷ []))) ++ escaped t

-- in double quotes [own]
abbrev pub quoted : List ℕ → List ℕ
quoted t = 34 ∷ (escaped t ++ (34 ∷ []))

-- a number of one word or two: in decimal, or as `0x` with 8 hexadecimal digits a word, the high word first [own]
abbrev pub number_text : Bool → ℕ → ℕ → ℕ → List ℕ
number_text true low high words =
    codes "0x" ++ (if nat_eq words 2 then hex_digits 8 high ++ hex_digits 8 low else hex_digits 8 low)
number_text false low high words = decimal (low + 4294967296 * high)

-- the id of a number's type: for a LiteralContextDependentNumber the instruction's `Type`, for a switch literal the
-- type of the first operand [own]
abbrev pub number_type : Context → Option Sort → Option ℕ
number_type c None = None
number_type c (Some s) = if bytes_eq s.kind.name (codes "LiteralContextDependentNumber") then type_in c.operands
    else option_and_then (type_of c.before) (first_id c.operands)

-- is an id, if there is one, that of a float type: is its last definition an OpTypeFloat [own]
abbrev pub is_float_type : List PlainInst → Option ℕ → Bool
is_float_type before t =
    unwrap_or (option_map (λ i. nat_eq i.opcode TYPE_FLOAT) (option_and_then (definition_of before) t)) false

-- is the type of a number at a slot a float type [own]
abbrev pub is_float : Table → Context → Slot → Bool
is_float G c s = is_float_type c.before (number_type c (kind_of G s.kind))

-- the shown text of an operand; a number stands in hexadecimal or not [own]
abbrev pub shown_operand : Table → Bool → Plain → List ℕ
shown_operand G hex (OfType x) = id_text x
shown_operand G hex (Result x) = id_text x
shown_operand G hex (Id x) = id_text x
shown_operand G hex (Word x) = decimal x
shown_operand G hex (Argument x) = id_text x
shown_operand G hex (Mention x) = id_text x
shown_operand G hex (Number low high words) = number_text hex low high words
shown_operand G hex (Text t) = quoted t
shown_operand G hex (Value k x) = shown_value (enumerants_at (kind_of G k)) x
shown_operand G hex (Mask k x) = shown_mask (enumerants_at (kind_of G k)) x

-- A text that is read as the operand: any name of a value or mask, and of any other operand the shown text. [own]
abbrev pub IsRead : Table → Bool → Plain → List ℕ → Type 0
IsRead G hex (Value k x) t = Names (value_named (enumerants_at (kind_of G k))) x t
IsRead G hex (Mask k x) t = NamesMask (value_named (enumerants_at (kind_of G k))) x t
IsRead G hex o t = t ≡ shown_operand G hex o

-- is an operand after these the result of its instruction: the first `Result` [own]
abbrev pub is_result : Context → Plain → Bool
is_result c (Result x) = not (is_some (result_in c.operands))
is_result c _ = false

-- How an operand may be written: shown or read. [own]
abbrev pub Form : Type 1
Form = Bool → Plain → List ℕ → Type 0

-- its shown text alone, or a text that is read as it [own]
abbrev pub Shown : Table → Form
Shown G hex o t = t ≡ shown_operand G hex o
