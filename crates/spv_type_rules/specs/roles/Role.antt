-- Which roles an id plays: what its definition must be. [2.2.1, 2.16]
use Rattle.std.specs.Prelude.{◌≡◌, ◌≢◌, ◌≤◌, ◌⊎◌, ℕ, List, IsSome, IsSomeAnd}
use Rattle.spv_module.specs.Operand.{PlainInst, type_in}
use Rattle.spv_module.specs.Width.{definition_of}
use Rattle.spv_module.specs.declared.opcode.TheConstants as opcode
use Rattle.spv_layout.specs.declared.form.Role.{Role}
use Rattle.spv_layout.specs.declared.form.Role.TheVariants as role
use Rattle.spv_type_forms.specs.Definitions.{IsGlobal}

-- The id plays the role: its definition is a type declaration, of the opcodes from OpTypeVoid to OpTypePipe,
-- OpTypePipeStorage or OpTypeNamedBarrier; a value, which is an instruction with a result type, other than OpFunction;
-- an OpFunction; an OpString; an OpExtInstImport; or an OpVariable outside functions. Nothing is asked here of the id
-- of a label, nor of one that may be anything. [own]
abbrev pub Plays : List PlainInst → Role → ℕ → Type 0
Plays is role.OfType x =
    IsSomeAnd (definition_of is x) (λ d. ((opcode.TYPE_VOID ≤ d.opcode) × (d.opcode ≤ opcode.TYPE_PIPE))
    ⊎ (d.opcode ≡ opcode.TYPE_PIPE_STORAGE) ⊎ (d.opcode ≡ opcode.TYPE_NAMED_BARRIER))
Plays is role.Value x = IsSomeAnd (definition_of is x) (λ d. IsSome (type_in d.operands) × (d.opcode ≢ opcode.FUNCTION))
Plays is role.Function x = IsSomeAnd (definition_of is x) (λ d. d.opcode ≡ opcode.FUNCTION)
Plays is role.Text x = IsSomeAnd (definition_of is x) (λ d. d.opcode ≡ opcode.STRING)
Plays is role.Set x = IsSomeAnd (definition_of is x) (λ d. d.opcode ≡ opcode.EXT_INST_IMPORT)
Plays is role.Global x = IsGlobal is x
Plays is role.Label x = Unit {0}
Plays is role.Any x = Unit {0}
