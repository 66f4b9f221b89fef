-- Which operands are scopes and which are memory semantics. [3.27, 3.25; the operands of 3.49.18, 3.49.20 and 3.49.21]
use Rattle.std.specs.Prelude.{ℕ, List, [], ◌∷◌, Bool, nat_le, ◌&&◌, if◌then◌else◌}
use Rattle.spv_kernel_operands.specs.declared.seats.TheConstants.{TABLE}

-- a line: from which opcode to which, and the numbers of the operands, from 0, that are scopes, and that are semantics
-- [own]
abbrev pub Line : Type 0
Line = ℕ × ℕ × record { now : List ℕ } × record { now : List ℕ }

abbrev pub is_of : ℕ → Line → Bool
is_of opcode l = nat_le l.0 opcode && nat_le opcode l.1

-- those of the first line that has the opcode; none where none has it [own]
abbrev pub scopes_in : List Line → ℕ → List ℕ
scopes_in [] opcode = []
scopes_in (l ∷ ls) opcode = if is_of opcode l then l.2.now else scopes_in ls opcode

abbrev pub semantics_in : List Line → ℕ → List ℕ
semantics_in [] opcode = []
semantics_in (l ∷ ls) opcode = if is_of opcode l then l.3.now else semantics_in ls opcode

-- the table of src/seats.rt
unfoldable pub lines : List Line
lines = TABLE

abbrev pub scopes_of : ℕ → List ℕ
scopes_of opcode = scopes_in lines opcode

abbrev pub semantics_of : ℕ → List ℕ
semantics_of opcode = semantics_in lines opcode
