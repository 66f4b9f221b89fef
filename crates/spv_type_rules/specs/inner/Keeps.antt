-- Y8 at an instruction, by a name of its own. (For the code alone.)
use Rattle.std.specs.Prelude.{◌≡◌, List}
use Rattle.spv_module.specs.declared.opcode.TheConstants as opcode
use Rattle.spv_module.specs.Operand.{PlainInst}
use Rattle.spv_type_rules.specs.inner.Function.{IsSoundCall}

-- Y8 speaks of OpFunctionCall. [own]
abbrev pub CallsAreSound : List PlainInst → PlainInst → Type 0
CallsAreSound is i = i.opcode ≡ opcode.FUNCTION_CALL → IsSoundCall is i
