-- What a text comes to that has no image. (For the code alone.)
use Rattle.std.specs.Prelude.{Result, Ok, Err}
use Rattle.spv_lines.specs.declared.asm_error.AsmError.{AsmError}
use Rattle.spv_lines.specs.declared.asm_error.AsmCode.{AsmCode}
use Rattle.spv_lines.specs.declared.asm_error.AsmCode.TheVariants.{S6}
use Rattle.spv_table.specs.declared.error.Memory.{Memory}

-- out of memory is an error, and any other fault is told
abbrev pub faulty_by : AsmCode → AsmError → Result AsmError Memory
faulty_by S6 e = Err (record {})
faulty_by _ e = Ok e

abbrev pub faulty_of : AsmError → Result AsmError Memory
faulty_of e = faulty_by e.code e
