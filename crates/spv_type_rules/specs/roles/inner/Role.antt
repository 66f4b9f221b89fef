-- What the definition of an id in a role must be, by name. (For the code alone.)
use Rattle.std.specs.Prelude.{◌≡◌, ◌≢◌, ◌≤◌, ◌⊎◌, ℕ, IsSome}
use Rattle.spv_module.specs.Operand.{PlainInst, type_in}
use Rattle.spv_module.specs.declared.opcode.TheConstants as opcode

-- a type declaration: OpTypeVoid to OpTypePipe, OpTypePipeStorage and OpTypeNamedBarrier [own]
abbrev pub IsTypeDeclaration : PlainInst → Type 0
IsTypeDeclaration d = ((opcode.TYPE_VOID ≤ d.opcode) × (d.opcode ≤ opcode.TYPE_PIPE))
    ⊎ (d.opcode ≡ opcode.TYPE_PIPE_STORAGE) ⊎ (d.opcode ≡ opcode.TYPE_NAMED_BARRIER)

-- an instruction with a result type, other than OpFunction [own]
abbrev pub IsValue : PlainInst → Type 0
IsValue d = IsSome (type_in d.operands) × (d.opcode ≢ opcode.FUNCTION)

-- the instruction has the opcode [own]
abbrev pub IsOfOpcode : ℕ → PlainInst → Type 0
IsOfOpcode n d = d.opcode ≡ n
