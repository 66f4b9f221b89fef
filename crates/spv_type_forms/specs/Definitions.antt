-- What the definition of an id may be: a constant, or a variable of section 9.
use Rattle.std.specs.Prelude.{◌≡◌, ℕ, List, nat_eq, nat_le}
use Rattle.std.specs.Prelude.{◌&&◌, ◌||◌, IsTrue, IsSomeAnd}
use Rattle.spv_module.specs.declared.opcode.TheConstants as opcode
use Rattle.spv_module.specs.Operand.{PlainInst}
use Rattle.spv_module.specs.Width.{definition_of}
use Rattle.spv_layout.specs.Place.{IsOfSection}
use Rattle.spv_ids.specs.Definition.{IsDefinedAt}

-- The definition of the id is a constant: one of the instructions OpConstantTrue to OpConstantNull, OpSpecConstantTrue
-- to OpSpecConstantComposite, and OpConstantPipeStorage. [2.2.1: Constant Instruction; the opcodes of 3.49.7]
abbrev pub IsConstant : List PlainInst → ℕ → Type 0
IsConstant is x = IsSomeAnd (definition_of is x) (λ d.
    IsTrue ((nat_le opcode.CONSTANT_TRUE d.opcode && nat_le d.opcode opcode.CONSTANT_NULL)
    || (nat_le opcode.SPEC_CONSTANT_TRUE d.opcode && nat_le d.opcode opcode.SPEC_CONSTANT_COMPOSITE)
    || nat_eq d.opcode opcode.CONSTANT_PIPE_STORAGE))

-- The definition of the id is an OpVariable of section 9, which is the 11th. [2.4]
pub record IsGlobal (is : List PlainInst) (x : ℕ) : Type 0 where
  pub place : ℕ
  pub defined : IsDefinedAt is x place
  pub variable : defined.inst.opcode ≡ opcode.VARIABLE
  pub section : IsOfSection is place 11
