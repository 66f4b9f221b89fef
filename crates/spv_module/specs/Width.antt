-- How wide a number is.
use Rattle.std.specs.Prelude.{ℕ, List, [], ◌∷◌, Option, Some, None, Bool, false, nat_eq, nat_le, ◌&&◌}
use Rattle.std.specs.Prelude.{◌||◌, if◌then◌else◌, option_and_then}
use Rattle.spv_module.specs.declared.opcode.TheConstants.{TYPE_INT, TYPE_FLOAT}
use Rattle.spv_module.specs.Operand.{Plain, OfType, Result, Id, Word, PlainInst, result_in, type_in, Context}

-- the last instruction whose result is the id [own]
abbrev pub has_result : Option ℕ → ℕ → Bool
has_result None x = false
has_result (Some r) x = nat_eq r x

abbrev pub or_else : Option PlainInst → Option PlainInst → Option PlainInst
or_else (Some i) j = Some i
or_else None j = j

abbrev pub definition_of : List PlainInst → ℕ → Option PlainInst
definition_of [] x = None
definition_of (i ∷ is) x = or_else (definition_of is x) (if has_result (result_in i.operands) x then Some i else None)

-- the width of a type id, if its OpTypeInt or OpTypeFloat, `Result, Word(w) ..`, declares one from 1 to 64 [2.2.1]
abbrev pub width_in : List Plain → Option ℕ
width_in (Result _ ∷ Word w ∷ _) = if nat_le 1 w && nat_le w 64 then Some w else None
width_in _ = None

abbrev pub declared_width : PlainInst → Option ℕ
declared_width i = if nat_eq i.opcode TYPE_INT || nat_eq i.opcode TYPE_FLOAT then width_in i.operands else None

abbrev pub width_of : List PlainInst → ℕ → Option ℕ
width_of before t = option_and_then declared_width (definition_of before t)

-- the type of an id; the id that the first operand is [own]
abbrev pub type_of : List PlainInst → ℕ → Option ℕ
type_of before x = option_and_then (λ i. type_in i.operands) (definition_of before x)

abbrev pub first_id : List Plain → Option ℕ
first_id (OfType x ∷ _) = Some x
first_id (Result x ∷ _) = Some x
first_id (Id x ∷ _) = Some x
first_id _ = None

-- the width of a LiteralContextDependentNumber, by the result type; of a switch literal, by the first operand [2.2.1]
abbrev pub context_width : Context → Option ℕ
context_width c = option_and_then (width_of c.before) (type_in c.operands)

abbrev pub switch_width : Context → Option ℕ
switch_width c = option_and_then (width_of c.before) (option_and_then (type_of c.before) (first_id c.operands))
