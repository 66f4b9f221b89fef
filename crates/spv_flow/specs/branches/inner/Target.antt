-- Tests of opcodes. (For the code alone.)
use Rattle.std.specs.Prelude.{ℕ, Bool, nat_eq, nat_le, ◌&&◌, ◌||◌}
use Rattle.spv_module.specs.declared.opcode.TheConstants as opcode
use Rattle.spv_flow.specs.branches.Target.{is_branch}

-- the opcode of OpFunction [3.49.17]
abbrev pub is_function : ℕ → Bool
is_function code = nat_eq code opcode.FUNCTION

-- those of all terminators: the branches, OpReturn, OpReturnValue and OpUnreachable [3.49.17]
abbrev pub is_terminator : ℕ → Bool
is_terminator code = is_branch code || (nat_le opcode.RETURN code && nat_le code opcode.UNREACHABLE)
