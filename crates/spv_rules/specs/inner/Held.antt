-- Rows that the code has at hand. (For the code alone.)
use Rattle.std.specs.Prelude.{ℕ, List, [], ◌∷◌}
use Rattle.std.specs.Borrow.{Bor}
use Rattle.spv_rules.specs.declared.errors.ErrorCode.{ErrorCode}
use Rattle.spv_rules.specs.declared.rules.Code.{Code}
use Rattle.spv_rules.specs.Errors.{ErrorRow}
use Rattle.spv_rules.specs.declared.table.TheConstants.{WORD_ROWS, INSTRUCTION_ROWS, ORDER_ROWS}
use Rattle.spv_rules.specs.declared.table.TheConstants.{ENTRY_ROWS, TYPE_ROWS, FLOW_ROWS, STANDARD_ROWS}
use Rattle.spv_rules.specs.Table.{Row, Text}

-- a row with references to its texts
abbrev pub Held : Type 0
Held = Code × ℕ × Bor (List ℕ) × Bor (List ℕ) × Bor (List ℕ) × Bor (List ℕ) × Bor (List ℕ)

abbrev pub HeldError : Type 0
HeldError = ErrorCode × Bor (List ℕ) × Bor (List ℕ) × Bor (List ℕ) × Bor (List ℕ)

abbrev pub text_of : Bor (List ℕ) → Text
text_of text = record { now = text.now }

-- the row of the table that it is
abbrev pub plain : Held → Row
plain row = (row.0, row.1, text_of row.2, text_of row.3, text_of row.4, text_of row.5, text_of row.6)

abbrev pub plain_error : HeldError → ErrorRow
plain_error row = (row.0, text_of row.1, text_of row.2, text_of row.3, text_of row.4)

-- the table, in parts
unfoldable pub parts : List (List Row)
parts = WORD_ROWS.now ∷ INSTRUCTION_ROWS.now ∷ ORDER_ROWS.now ∷ ENTRY_ROWS.now ∷ TYPE_ROWS.now ∷ FLOW_ROWS.now
    ∷ STANDARD_ROWS.now ∷ []
