-- What the reading of a line's name and of what stands in front of it answers. (For the code alone.)
use Rattle.std.specs.Prelude.{◌<◌, ℕ, List, Option, Some, None, Result, Ok, Err, IfSome}
use Rattle.spv_table.specs.Table.{Table, Item}
use Rattle.spv_module.specs.Operand.{Context}
use Rattle.spv_lines.specs.declared.asm_error.AsmCode.{AsmCode}
use Rattle.spv_lines.specs.Line.{IsInstName}
use Rattle.spv_lines.specs.Name.{Names}
use Rattle.spv_lines.specs.Fault.{IsResult, ResultFails}
use Rattle.spv_parser.specs.declared.line.Named.{Named}

-- the opcode that a plain name of it or `#N` stands for, or that a text stands for none
abbrev pub IsOpcodeText : (List ℕ → Option ℕ) → List ℕ → Option ℕ → Type 0
IsOpcodeText lookup t (Some x) = (x < 65536) × Names lookup x t
IsOpcodeText lookup t None = (x : ℕ) → x < 65536 → Names lookup x t → ⊥

-- The name of the entry that is kept, if one is, stands for it.
abbrev pub IsKnown : Table → Option Named → Type 0
IsKnown G last = IfSome last (λ n. IsInstName G n.entry.name n.opcode n.entry)

-- the result that stands in front of ` = `, or that nothing does; or the code of a fault there
abbrev pub IsFront : Table → Context → List Item → Option (List ℕ) → Result (Option ℕ) AsmCode → Type 0
IsFront G c is p (Ok r) = IsResult p r × ((wrong : AsmCode) → ¬ (ResultFails G c is p wrong))
IsFront G c is p (Err code) = ResultFails G c is p code
