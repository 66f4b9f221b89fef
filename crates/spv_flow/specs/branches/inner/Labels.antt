-- Which operands are labels, by the opcode and the operand's number. The table of shapes says the same. (For the code
-- alone.)
use Rattle.std.specs.Prelude.{◌≡◌, ◌%◌, ◌<◌, ℕ, List, Some, Bool, true, nat_eq, nat_le, ◌&&◌, ◌||◌, if◌then◌else◌}
use Rattle.std.specs.Prelude.{slice_get, option_and_then}
use Rattle.spv_module.specs.Operand.{Plain, PlainInst}
use Rattle.spv_module.specs.declared.opcode.TheConstants as opcode
use Rattle.spv_layout.specs.Shape.{id_of}
use Rattle.spv_flow.specs.branches.Target.{is_phi, is_merge, is_branch}

-- whether an opcode is that of an OpPhi, a merge or a terminator with labels
abbrev pub is_labelled : ℕ → Bool
is_labelled code = is_phi code || (is_merge code || is_branch code)

-- that of OpBranch
abbrev pub is_jump : ℕ → Bool
is_jump code = nat_eq code opcode.BRANCH

-- whether operand n of such an instruction is a label, if there is one: of OpSwitch, OpPhi, OpBranchConditional,
-- OpLoopMerge, and OpBranch and OpSelectionMerge
abbrev pub is_label_at : ℕ → ℕ → Bool
is_label_at code n =
    if nat_eq code opcode.SWITCH then nat_eq (n % 2) 1
    else if nat_eq code opcode.PHI then nat_le 2 n && nat_eq (n % 2) 1
    else if nat_eq code opcode.BRANCH_CONDITIONAL then nat_le 1 n && nat_le n 2
    else if nat_eq code opcode.LOOP_MERGE then nat_le n 1
    else nat_eq n 0

-- the instruction has that opcode and these operands
pub record IsMadeOf (i : PlainInst) (code : ℕ) (os : List Plain) : Type 0 where
  pub of : i.opcode ≡ code
  pub has : i.operands ≡ os

-- Each operand after operand n and before another is no label of an OpSwitch, or the same id.
abbrev pub AreSameCases : List Plain → ℕ → ℕ → ℕ → Type 0
AreSameCases operands n to x =
    (k : ℕ) → n < k → k < to → is_label_at opcode.SWITCH k ≡ true
    → option_and_then id_of (slice_get operands k) ≡ Some x
