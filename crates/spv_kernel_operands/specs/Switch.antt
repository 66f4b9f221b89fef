-- O19: the literals of OpSwitch. [OpSwitch; 2.2.1, literals]
use Rattle.std.specs.Prelude.{◌≡◌, ◌<◌, ◌≤◌, ◌+◌, ◌*◌, ◌^◌, ℕ, List, Option, Some, None, Contains}
use Rattle.std.specs.Prelude.{filter_map, slice_get, option_and_then}
use Rattle.spv_module.specs.declared.opcode.TheConstants as opcode
use Rattle.spv_module.specs.Operand.{Plain, Number, PlainInst}
use Rattle.spv_module.specs.Width.{type_of}
use Rattle.spv_type_forms.specs.Types.{IsInt}
use Rattle.spv_kernel_operands.specs.Value.{id_at}

-- the number that a literal is, all its 64 bits; and the literals of OpSwitch %x %default n %l .. in order [OpSwitch]
abbrev pub literal_in : Plain → Option ℕ
literal_in (Number low high words) = Some (low + 4294967296 * high)
literal_in o = None

abbrev pub literals_of : List Plain → List ℕ
literals_of os = filter_map literal_in os

-- Two of these literals are equal. [OpSwitch]
pub record HasTwice (ns : List ℕ) : Type 0 where
  pub first : ℕ
  pub second : ℕ
  pub before : first < second
  pub literal : ℕ
  pub one : slice_get ns first ≡ Some literal
  pub other : slice_get ns second ≡ Some literal

-- One has a bit from the width of the selector's type up. [2.2.1]
pub record HasWide (is : List PlainInst) (os : List Plain) : Type 0 where
  pub selector : ℕ
  pub typed : option_and_then (type_of is) (id_at os 0) ≡ Some selector
  pub width : ℕ
  pub int : IsInt is selector width
  pub literal : ℕ
  pub there : Contains (literals_of os) literal
  pub wide : 2 ^ width ≤ literal

-- Instruction i breaks O19.
pub data IsMisswitched (is : List PlainInst) (i : PlainInst) : Type 0 where
  twice : i.opcode ≡ opcode.SWITCH → HasTwice (literals_of i.operands) → IsMisswitched is i
  wide : i.opcode ≡ opcode.SWITCH → HasWide is i.operands → IsMisswitched is i
