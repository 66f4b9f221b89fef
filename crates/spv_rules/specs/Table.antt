-- The table of codes, as clauses see it. (Own.)
use Rattle.std.specs.Prelude.{◌+◌, ◌++◌, ℕ, List, length}
use Rattle.spv_rules.specs.declared.rules.Code.{Code}
use Rattle.spv_rules.specs.declared.table.TheConstants.{WORD_ROWS, INSTRUCTION_ROWS, ORDER_ROWS}
use Rattle.spv_rules.specs.declared.table.TheConstants.{ENTRY_ROWS, TYPE_ROWS, FLOW_ROWS, STANDARD_ROWS}

-- a text of a static
abbrev pub Text : Type 0
Text = record { now : List ℕ }

-- a row: the code, its number in C, its name, the name and the sentence as C takes them, the sources that the sentence
-- ends with, and where the code is broken
abbrev pub Row : Type 0
Row = Code × ℕ × Text × Text × Text × Text × Text

-- all rows
unfoldable pub rows : List Row
rows = WORD_ROWS.now ++ INSTRUCTION_ROWS.now ++ ORDER_ROWS.now ++ ENTRY_ROWS.now ++ TYPE_ROWS.now ++ FLOW_ROWS.now
    ++ STANDARD_ROWS.now

-- how many there are
abbrev pub row_count : ℕ
row_count = length WORD_ROWS.now + length INSTRUCTION_ROWS.now + length ORDER_ROWS.now + length ENTRY_ROWS.now
    + length TYPE_ROWS.now + length FLOW_ROWS.now + length STANDARD_ROWS.now
