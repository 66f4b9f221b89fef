-- What shows that O3 or one of O5 to O13 is broken. Operands count from 0. [2.16.1, 2.18.2, 3.20, 3.49.3, 3.49.5; own]
use Rattle.std.specs.Prelude.{◌≡◌, ◌<◌, ◌≤◌, ◌⊎◌, ℕ, List, Some, slice_get, true}
use Rattle.spv_table.specs.Table.{Table}
use Rattle.spv_module.specs.declared.opcode.TheConstants as opcode
use Rattle.spv_module.specs.Operand.{Id, PlainInst}
use Rattle.spv_module.specs.declared.fault.Rule.{Rule}
use Rattle.spv_module.specs.declared.fault.Rule.TheVariants.{O3, O5, O6, O7, O8, O9, O10, O11, O12, O13}
use Rattle.spv_type_forms.specs.declared.form.Form.TheVariants as form
use Rattle.spv_type_forms.specs.declared.form.Scalar.TheVariants as scalar
use Rattle.spv_type_forms.specs.Form.{form_in}
use Rattle.spv_conditions.specs.Further.{IsGroup}
use Rattle.spv_capabilities.specs.Capable.{Has as IsImplied}
use Rattle.spv_declarations.specs.Declarations.{HasBytes, IsForwardElsewhere, IsOfNoMember}
use Rattle.spv_declarations.specs.Decorated.{Has, HasBy, Imports, IsEntered, IsInitialized}
use Rattle.spv_declarations.specs.Entry.{IsRepeated}
use Rattle.spv_declarations.specs.Given.{Gives, NamesMember, group_by, member_given_by}
use Rattle.spv_declarations.specs.Shown.{IsHalfBy, IsOtherOf}
use Rattle.spv_declarations.specs.Table.{IsNeverOnMembers, StandsOn}
use Rattle.spv_declarations.specs.declared.shown.members.Mixture.TheVariants.{Members, Within}
use Rattle.spv_evidence.specs.declared.evidence.Evidence.{Evidence}
use Rattle.spv_evidence.specs.declared.evidence.Evidence.TheVariants.{ByGroup, Capability, Earlier, Operand, Pair}

-- the rules that look at no decorations
abbrev pub IsUndecorated : Rule → Type 0
IsUndecorated r = (r ≡ O3) ⊎ (r ≡ O5) ⊎ (r ≡ O6) ⊎ (r ≡ O12) ⊎ (r ≡ O13)

-- those of decorations that look at several of them
abbrev pub IsDecorating : Rule → Type 0
IsDecorating r = (r ≡ O8) ⊎ (r ≡ O9) ⊎ (r ≡ O10) ⊎ (r ≡ O11)

-- Instruction i has that opcode, and an id as the operand k behind the first two. [3.49.3, 3.49.5]
pub record HasIdAt (i : PlainInst) (code k : ℕ) : Type 0 where
  pub called : i.opcode ≡ code
  pub behind : 2 ≤ k
  pub id : ℕ
  pub there : slice_get i.operands k ≡ Some (Id id)

-- It shows that instruction i gives a decoration to what that may not stand on. [3.20, 3.49.3]
pub data Misplaces (is : List PlainInst) (i : PlainInst) : Evidence → Type 0 where
  -- an id behind the decoration
  with_id : (k : ℕ) → HasIdAt i opcode.DECORATE k → Misplaces is i (Operand k)
  -- the id that is decorated
  on_id : (x d : ℕ) → Gives d i x → ¬ (IsGroup is x) → ¬ (StandsOn is d x) → Misplaces is i (Operand 0)
  -- a target of a group, and the instruction that gives the group the decoration
  on_target : (g x d k m : ℕ) (j : PlainInst) → group_by opcode.GROUP_DECORATE i ≡ Some g → 0 < k
      → slice_get i.operands k ≡ Some (Id x) → slice_get is m ≡ Some j → Gives d j g → ¬ (StandsOn is d x)
      → Misplaces is i (ByGroup k m)
  -- the decoration of a member
  on_member : (t k d : ℕ) → member_given_by i ≡ Some (t, k, d) → IsNeverOnMembers d → Misplaces is i (Operand 2)
  -- what gives a decoration to the group of a member
  on_member_target : (g t k d m : ℕ) (j : PlainInst) → NamesMember i g t k → slice_get is m ≡ Some j → Gives d j g
      → IsNeverOnMembers d → Misplaces is i (Earlier m)

-- It shows that the rule is broken at the instruction of that number.
pub data IsEvidence (G : Table) (is : List PlainInst) : Rule → ℕ → Evidence → Type 0 where
  -- the entry point that has the model and the name
  repeated : (n : ℕ) (e : IsRepeated is n) → IsEvidence G is O3 n (Earlier e.before)
  -- the id behind the mode
  takes_id : (n k : ℕ) (i : PlainInst) → slice_get is n ≡ Some i → HasIdAt i opcode.EXECUTION_MODE k
      → IsEvidence G is O5 n (Operand k)
  -- the number of the member
  of_no_member : (n : ℕ) → IsOfNoMember is n → IsEvidence G is O6 n (Operand 1)
  misplaced : (n : ℕ) (i : PlainInst) (e : Evidence) → slice_get is n ≡ Some i → Misplaces is i e
      → IsEvidence G is O7 n e
  -- the least instruction by which an id has the other of Restrict (19) and Aliased (20)
  second : (n m : ℕ) → IsOtherOf is n m → IsEvidence G is O8 n (Earlier m)
  -- the entry point of the function
  linked_entry : (n x : ℕ) (e : IsEntered is x) → HasBy is x 41 n → IsEvidence G is O9 n (Earlier e.place)
  -- the storage class Input; what imports the variable
  input : (n : ℕ) (e : IsInitialized G is n) → e.class ≡ 1 → IsEvidence G is O10 n (Operand 2)
  imported : (n m : ℕ) (e : IsInitialized G is n) → Has is (Imports G) e.id m → IsEvidence G is O10 n (Earlier m)
  -- a member that has BuiltIn (11), and one that has not
  in_part : (n j k : ℕ) → IsHalfBy is n (Members j k) → IsEvidence G is O11 n (Pair j k)
  -- a member whose type is a struct with a member that has BuiltIn
  within : (n k : ℕ) → IsHalfBy is n (Within k) → IsEvidence G is O11 n (Operand k)
  -- the pointer type
  elsewhere : (n : ℕ) → IsForwardElsewhere is n → IsEvidence G is O12 n (Operand 0)
  -- the width; the capability VulkanMemoryModel (5345)
  bytes : (n : ℕ) (i : PlainInst) → slice_get is n ≡ Some i → form_in i ≡ Some (form.Scalar (scalar.Int 8))
      → ¬ (HasBytes G is) → IsEvidence G is O13 n (Operand 1)
  vulkan : (n : ℕ) (i : PlainInst) → slice_get is n ≡ Some i → i.opcode ≡ opcode.MEMORY_MODEL → IsImplied G is 5345
      → IsEvidence G is O13 n (Capability 5345 true)
