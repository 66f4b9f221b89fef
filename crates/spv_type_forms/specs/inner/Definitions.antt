-- The opcodes of constants. (For the code alone.)
use Rattle.std.specs.Prelude.{ℕ, Bool, nat_eq, nat_le, ◌&&◌, ◌||◌}
use Rattle.spv_module.specs.declared.opcode.TheConstants as opcode

-- OpConstantTrue to OpConstantNull, OpSpecConstantTrue to OpSpecConstantComposite, OpConstantPipeStorage [3.49.7]
abbrev pub is_constant_opcode : ℕ → Bool
is_constant_opcode n =
    (nat_le opcode.CONSTANT_TRUE n && nat_le n opcode.CONSTANT_NULL)
    || (nat_le opcode.SPEC_CONSTANT_TRUE n && nat_le n opcode.SPEC_CONSTANT_COMPOSITE)
    || nat_eq n opcode.CONSTANT_PIPE_STORAGE
