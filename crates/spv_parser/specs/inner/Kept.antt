-- What is kept of a line's operands. (For the code alone.)
use Rattle.std.specs.Prelude.{◌≡◌, ℕ, List, [], ◌∷◌, Option, Some, None, nat_eq, nat_le, is_some}
use Rattle.std.specs.Prelude.{◌&&◌, if◌then◌else◌}
use Rattle.spv_module.specs.Operand.{Plain, PlainInst, Word, result_in, type_in}
use Rattle.spv_module.specs.Width.{first_id, declared_width, width_in}
use Rattle.spv_parser.specs.declared.operands.Known.{Known}
use Rattle.spv_parser.specs.declared.operands.Line.{Line}

-- how many operands there are, up to two
abbrev pub count_of : List Plain → ℕ
count_of [] = 0
count_of (o ∷ []) = 1
count_of (o ∷ p ∷ os) = 2

-- the width that a literal tells
abbrev pub literal_width : Plain → Option ℕ
literal_width (Word w) = if nat_le 1 w && nat_le w 64 then Some w else None
literal_width o = None

-- What is kept of a line is that of its instruction.
pub record IsOf (line : Line) (i : PlainInst) : Type 0 where
  pub opcode : line.opcode ≡ i.opcode
  pub result : line.result ≡ result_in i.operands
  pub type_id : line.type_id ≡ type_in i.operands
  pub width : line.width ≡ declared_width i

-- What is known of an instruction is that of its operands so far.
pub record IsOfOperands (known : Known) (number : ℕ) (os : List Plain) : Type 0 where
  pub opcode : known.opcode ≡ number
  pub result : known.result ≡ result_in os
  pub type_id : known.type_id ≡ type_in os
  pub first : known.first ≡ first_id os
  pub width : known.width ≡ width_in os
  pub count : known.count ≡ count_of os

-- the id that the first operand is, with one operand more
abbrev pub first_after : ℕ → Option ℕ → Plain → Option ℕ
first_after n first o = if nat_eq n 0 then first_id (o ∷ []) else first

-- the width behind a result, with one operand more
abbrev pub width_after : ℕ → Option ℕ → Option ℕ → Plain → Option ℕ
width_after n result width o = if nat_eq n 1 && is_some result then literal_width o else width
