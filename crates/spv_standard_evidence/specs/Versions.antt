-- What shows that O21 is broken. [3, 'missing before'; 3.49.4]
use Rattle.std.specs.Prelude.{◌≡◌, ◌<◌, ◌≤◌, ◌⊎◌, ℕ, List, ◌∷◌, Some, slice_get, Contains, codes, count_by}
use Rattle.std.specs.Prelude.{IsTrue, nat_eq, true}
use Rattle.std.specs.List.{starts_with}
use Rattle.spv_table.specs.Table.{Table}
use Rattle.spv_table.specs.Lookups.{number_named}
use Rattle.spv_module.specs.declared.opcode.TheConstants as opcode
use Rattle.spv_module.specs.Operand.{Plain, OfType, Result, Id, Text, Value, Mask, PlainInst}
use Rattle.spv_module.specs.declared.fault.Rule.{Rule}
use Rattle.spv_module.specs.declared.fault.Rule.TheVariants.{O21}
use Rattle.spv_versions.specs.declared.table.Kind.{Kind}
use Rattle.spv_versions.specs.declared.table.Kind.TheVariants as kind
use Rattle.spv_versions.specs.Missing.{SelectsWhole, is_mask}
use Rattle.spv_versions.specs.Named.{IsDeclared, IsSetBit}
use Rattle.spv_versions.specs.Table.{IsBefore, IsOf, Line, Text as Name, lines, name_of}
use Rattle.spv_evidence.specs.declared.evidence.Evidence.{Evidence}
use Rattle.spv_evidence.specs.declared.evidence.Evidence.TheVariants.{Late, Opcode, Operand}
use Rattle.spv_evidence.specs.declared.evidence.Lister.{Lister}
use Rattle.spv_evidence.specs.declared.evidence.Lister.TheVariants as lister

-- Line l of the table, from 0, is of that number of the kind, the version 1.minor is before what it says, and no
-- OpExtension has a name of it. [3, 3.49.4]
pub record IsMissingBy (minor : ℕ) (is : List PlainInst) (k : Kind) (v l : ℕ) : Type 0 where
  pub line : Line
  pub there : slice_get lines l ≡ Some line
  pub of : IsOf line k v
  pub before : IsBefore minor line.3
  pub undeclared : (name : Name) → Contains line.4.now name → ¬ (IsDeclared is name.now)

-- The instruction has that number of the kind by its opcode; by the operand that is the value; by the bit v of the
-- operand that is the mask. [3, 3.49]
pub data HasNumberBy (G : Table) (i : PlainInst) : Lister → Kind → ℕ → Type 0 where
  of_opcode : HasNumberBy G i lister.Entry kind.Opcode i.opcode
  of_value : (k : Kind) (place j v : ℕ) (name : List ℕ) → slice_get i.operands place ≡ Some (Value j v)
      → name_of k ≡ Some name → number_named G name ≡ Some j → HasNumberBy G i (lister.Value place) k v
  of_bit : (k : Kind) (place j m v : ℕ) (name : List ℕ) → slice_get i.operands place ≡ Some (Mask j m)
      → name_of k ≡ Some name → number_named G name ≡ Some j → IsSetBit m v
      → HasNumberBy G i (lister.Bit place v) k v

-- It shows that instruction i of a module of version 1.minor is what that version does not have, or has no more. [3;
-- OpCopyMemory, OpSelect; OpLessOrGreater, OpAtomicCompareExchangeWeak: 'missing after'; SPV_KHR_non_semantic_info]
pub data Shows (G : Table) (minor : ℕ) (is : List PlainInst) (i : PlainInst) : Evidence → Type 0 where
  -- the opcode, the value or the bit, and the line of the table
  number : (b : Lister) (k : Kind) (v l : ℕ) → HasNumberBy G i b k v → IsMissingBy minor is k v l
      → Shows G minor is i (Late b l)
  -- a mask, where there are two
  two_masks : (place : ℕ) (o : Plain) → minor < 4 → (i.opcode ≡ opcode.COPY_MEMORY) ⊎ (i.opcode ≡ opcode.COPY_MEMORY_SIZED)
      → 2 ≤ count_by is_mask i.operands → slice_get i.operands place ≡ Some o → is_mask o ≡ true
      → Shows G minor is i (Operand place)
  -- the result type
  whole : (t x c : ℕ) (os : List Plain) → minor < 4 → i.opcode ≡ opcode.SELECT
      → i.operands ≡ OfType t ∷ Result x ∷ Id c ∷ os → SelectsWhole is t c → Shows G minor is i (Operand 0)
  -- the opcode of an instruction that went
  no_either : 5 < minor → i.opcode ≡ opcode.LESS_OR_GREATER → Shows G minor is i (Opcode i.opcode)
  no_weak : 3 < minor → i.opcode ≡ opcode.ATOMIC_COMPARE_EXCHANGE_WEAK → Shows G minor is i (Opcode i.opcode)
  -- the name of the set
  no_meaning : (x : ℕ) (name : List ℕ) (os : List Plain) → minor < 6 → i.opcode ≡ opcode.EXT_INST_IMPORT
      → i.operands ≡ Result x ∷ Text name ∷ os → IsTrue (starts_with nat_eq name (codes "NonSemantic."))
      → ¬ (IsDeclared is (codes "SPV_KHR_non_semantic_info")) → Shows G minor is i (Operand 1)

-- It shows that the rule is broken at the instruction of that number.
pub data IsEvidence (G : Table) (minor : ℕ) (is : List PlainInst) : Rule → ℕ → Evidence → Type 0 where
  late : (n : ℕ) (i : PlainInst) (e : Evidence) → slice_get is n ≡ Some i → Shows G minor is i e
      → IsEvidence G minor is O21 n e
