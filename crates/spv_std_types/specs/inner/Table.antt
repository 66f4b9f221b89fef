-- Lines of the table as the code reads them. (For the code alone.)
use Rattle.std.specs.Prelude.{List, [], Option, Some, None}
use Rattle.spv_std_types.specs.declared.condition.Condition.{Condition}
use Rattle.spv_std_types.specs.declared.table.Entry.{Entry}
use Rattle.spv_std_types.specs.Table.{Line}

abbrev pub line : Entry → Line
line e = (record { now = e.numbers.now }, record { now = e.conditions.now })

-- what a line asks, if there is one
abbrev pub asked_by : Option Line → List Condition
asked_by None = []
asked_by (Some l) = l.1.now
