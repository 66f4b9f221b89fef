-- A small module, of which the operands that no rule on interfaces looks at do not matter.
use Rattle.std.specs.Prelude.{List, [], ◌∷◌}
use Rattle.spv_module.specs.declared.opcode.TheConstants as opcode
use Rattle.spv_module.specs.Operand.{Plain, PlainInst, OfType, Result, Id, Value, Text}
use Rattle.spv_flow.specs.branches.Example.{negation}
use Rattle.spv_flow.specs.calls.Example.{function, label, call, return_op, end}

-- OpEntryPoint Kernel %1 "", and an interface
abbrev pub entry : List Plain → PlainInst
entry interface = record { opcode = opcode.ENTRY_POINT; operands = Value 0 6 ∷ Id 1 ∷ Text [] ∷ interface }

-- %9 = OpVariable %20 CrossWorkgroup
abbrev pub variable : PlainInst
variable = record { opcode = opcode.VARIABLE; operands = OfType 20 ∷ Result 9 ∷ Value 0 5 ∷ [] }

-- the entry point's function %1 calls %4, which uses %9
abbrev pub faced : List Plain → List PlainInst
faced interface = entry interface ∷ variable
    ∷ function 1 ∷ label 2 ∷ call 3 4 ∷ return_op ∷ end
    ∷ function 4 ∷ label 5 ∷ negation 6 9 ∷ return_op ∷ end ∷ []
