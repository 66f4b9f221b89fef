-- Small examples.
use Rattle.std.specs.Prelude.{ℕ, List, [], ◌∷◌, ◌++◌}
use Rattle.spv_module.specs.Operand.{Id, PlainInst}
use Rattle.spv_module.specs.declared.fault.Fault.{Fault}
use Rattle.spv_module.specs.declared.fault.Rule.TheVariants.{L1}
use Rattle.spv_module.specs.declared.opcode.TheConstants as opcode
use Rattle.spv_extended.specs.Example.{call, imports}
use Rattle.spv_layout.specs.Example.{bare}
use Rattle.spv_ids.specs.Example.{void}

-- %1 = OpTypeVoid, twice
abbrev pub twice_void : List PlainInst
twice_void = void 1 ∷ void 1 ∷ []

-- OpFunction and two OpLabel; their operands do not matter
abbrev pub labels : List PlainInst
labels = bare opcode.FUNCTION ∷ bare opcode.LABEL ∷ bare opcode.LABEL ∷ []

-- %1 = OpExtInstImport "OpenCL.std", an import of another set, and %9 = OpExtInst %3 %1 171 %7 %8
abbrev pub short_call : List PlainInst
short_call = imports ++ call 1 171 (Id 7 ∷ Id 8 ∷ []) ∷ []

-- OpUndef, OpString, OpLine, five that declare types, and OpFunction
abbrev pub many_opcodes : List ℕ
many_opcodes = 1 ∷ 7 ∷ 8 ∷ 19 ∷ 20 ∷ 21 ∷ 22 ∷ 23 ∷ 54 ∷ []

-- the header with the bound 9, and %5 = OpString "abc"
abbrev pub string_words : List ℕ
string_words = 119734787 ∷ 67072 ∷ 0 ∷ 9 ∷ 0 ∷ 196615 ∷ 5 ∷ 6513249 ∷ []

-- no module begins with an OpString
abbrev pub string_fault : Fault
string_fault = record { rule = L1; inst = 0; word = 5 }
