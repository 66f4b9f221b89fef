-- What shows that O14 to O20 or O23 is broken: operands. They count from 0. [2.16.1, 3.7, 3.23, 3.25, 3.27; own]
use Rattle.std.specs.Prelude.{◌≡◌, ◌<◌, ◌≤◌, ◌^◌, ℕ, List, Option, Some, option_and_then, slice_get}
use Rattle.spv_table.specs.Table.{Table}
use Rattle.spv_module.specs.declared.opcode.TheConstants as opcode
use Rattle.spv_module.specs.Operand.{Plain, PlainInst}
use Rattle.spv_module.specs.Width.{type_of}
use Rattle.spv_module.specs.declared.fault.Rule.{Rule}
use Rattle.spv_module.specs.declared.fault.Rule.TheVariants.{O14, O15, O16, O17, O18, O19, O20, O23}
use Rattle.spv_type_forms.specs.Types.{IsInt}
use Rattle.spv_kernel_operands.specs.Value.{id_at}
use Rattle.spv_kernel_operands.specs.Scopes.{IsMisscoped}
use Rattle.spv_kernel_operands.specs.Pointers.{IsEmptyCopy, IsMisatomic, IsMiswritten, pointer_seat}
use Rattle.spv_kernel_operands.specs.Control.{HasBadControl, HasBadWeights}
use Rattle.spv_kernel_operands.specs.Switch.{literal_in}
use Rattle.spv_kernel_operands.specs.Objects.{IsMadeElsewhere, IsVoidReturn}
use Rattle.spv_evidence.specs.declared.evidence.Evidence.{Evidence}
use Rattle.spv_evidence.specs.declared.evidence.Evidence.TheVariants.{Operand, Pair}

-- the operand whose value breaks O14, by the part of the rule [3.25, 3.27]
abbrev pub misscoped_seat : {is : List PlainInst} {i : PlainInst} → IsMisscoped is i → ℕ
misscoped_seat (IsMisscoped.scope k n s h) = k
misscoped_seat (IsMisscoped.group k n g f s w h) = k
misscoped_seat (IsMisscoped.order k n s h) = k
misscoped_seat (IsMisscoped.capable k n s h) = k
misscoped_seat (IsMisscoped.unequal n o v h) = 5
misscoped_seat (IsMisscoped.clear n o v h) = 2

-- the literal that the operand of a number is; operands j and k, of which j is the lower, are equal literals [OpSwitch]
abbrev pub literal_at : List Plain → ℕ → Option ℕ
literal_at os k = option_and_then literal_in (slice_get os k)

pub record AreEqual (os : List Plain) (j k : ℕ) : Type 0 where
  pub before : j < k
  pub literal : ℕ
  pub one : literal_at os j ≡ Some literal
  pub other : literal_at os k ≡ Some literal

-- Operand k is a literal with a bit from the width of the selector's type up. [2.2.1]
pub record IsWide (is : List PlainInst) (os : List Plain) (k : ℕ) : Type 0 where
  pub selector : ℕ
  pub typed : option_and_then (type_of is) (id_at os 0) ≡ Some selector
  pub width : ℕ
  pub int : IsInt is selector width
  pub literal : ℕ
  pub there : literal_at os k ≡ Some literal
  pub wide : 2 ^ width ≤ literal

-- It shows that the rule is broken by instruction i.
pub data Shows (G : Table) (is : List PlainInst) (i : PlainInst) : Rule → Evidence → Type 0 where
  -- the scope or the semantics
  scopes : (m : IsMisscoped is i) → Shows G is i O14 (Operand (misscoped_seat m))
  -- the pointer
  atomic : IsMisatomic G is i → Shows G is i O15 (Operand (pointer_seat i.opcode))
  written : IsMiswritten is i → Shows G is i O16 (Operand (pointer_seat i.opcode))
  -- the size
  empty : IsEmptyCopy is i → Shows G is i O17 (Operand 2)
  -- the loop control; the two weights
  loop : i.opcode ≡ opcode.LOOP_MERGE → HasBadControl i.operands → Shows G is i O18 (Operand 2)
  weights : i.opcode ≡ opcode.BRANCH_CONDITIONAL → HasBadWeights i.operands → Shows G is i O18 (Pair 3 4)
  -- two equal literals; one that is too wide
  twice : (j k : ℕ) → i.opcode ≡ opcode.SWITCH → AreEqual i.operands j k → Shows G is i O19 (Pair j k)
  wide : (k : ℕ) → i.opcode ≡ opcode.SWITCH → IsWide is i.operands k → Shows G is i O19 (Operand k)
  -- the value
  void : IsVoidReturn is i → Shows G is i O20 (Operand 0)

-- It shows that the rule is broken at the instruction of that number.
pub data IsEvidence (G : Table) (is : List PlainInst) : Rule → ℕ → Evidence → Type 0 where
  operands : (r : Rule) (n : ℕ) (i : PlainInst) (e : Evidence) → slice_get is n ≡ Some i → Shows G is i r e
      → IsEvidence G is r n e
  -- the sampled image
  elsewhere : (n : ℕ) → IsMadeElsewhere is n → IsEvidence G is O23 n (Operand 2)
