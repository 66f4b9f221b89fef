-- The first elements of a file with a number or a name. (Own.) (For the code alone.)
use Rattle.std.specs.Prelude.{ℕ, List, Option}
use Rattle.std.specs.List.{find}
use Rattle.std.specs.Str.{bytes_eq}
use Rattle.spv_table.specs.Lookups.{is_number}
use Rattle.spv_grammar.specs.declared.file.FileInstruction.{FileInstruction}
use Rattle.spv_grammar.specs.declared.file.FileEnumerant.{FileEnumerant}

-- the first instruction of a file with the opcode
abbrev pub instruction_with : List FileInstruction → ℕ → Option FileInstruction
instruction_with is opcode = find (λ i. is_number opcode i.opcode) is

-- the first instruction of a file that bears the name
abbrev pub instruction_named : List FileInstruction → List ℕ → Option FileInstruction
instruction_named is name = find (λ i. bytes_eq name i.name) is

-- the first enumerant with the value
abbrev pub enumerant_with : List FileEnumerant → ℕ → Option FileEnumerant
enumerant_with es value = find (λ e. is_number value e.value) es

-- the first enumerant that bears the name
abbrev pub enumerant_named : List FileEnumerant → List ℕ → Option FileEnumerant
enumerant_named es name = find (λ e. bytes_eq name e.name) es
