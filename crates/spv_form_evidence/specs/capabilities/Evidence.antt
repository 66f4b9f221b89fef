-- Evidence for C1, C2, M1, E1 and E2: what shows that the rule is broken. [2.4, 2.16.1, 3.4, 3.5, 3.17, 3.31, 3.49.5]
use Rattle.std.specs.Prelude.{◌≡◌, ◌≢◌, ◌⊎◌, ℕ, List, Contains, Some, true, false, slice_get}
use Rattle.spv_table.specs.Table.{Table}
use Rattle.spv_module.specs.Operand.{Plain, Value, Mask, PlainInst}
use Rattle.spv_module.specs.Spelling.{set_bits}
use Rattle.spv_module.specs.declared.fault.Rule.{Rule}
use Rattle.spv_module.specs.declared.fault.Rule.TheVariants as rule
use Rattle.spv_module.specs.declared.opcode.TheConstants as opcode
use Rattle.spv_layout.specs.Place.{IsDefinition}
use Rattle.spv_ids.specs.Definition.{IsDefinedAt}
use Rattle.spv_ids.specs.Order.{HasOpcode}
use Rattle.spv_capabilities.specs.Capable.{Has, IsCoveredValue, is_read_write, needs_of}
use Rattle.spv_capabilities.specs.Entry.{IsSoundMode, ReturnsVoid, called_by, entered_by}
use Rattle.spv_capabilities.specs.Asked.{IsOtherKind, IsCoveredEntry, HasNeeded, HasEntry, IsImported}
use Rattle.spv_evidence.specs.declared.evidence.Evidence.{Evidence}
use Rattle.spv_evidence.specs.declared.evidence.Evidence.TheVariants as evidence
use Rattle.spv_evidence.specs.declared.evidence.EntryPart.{EntryPart}
use Rattle.spv_evidence.specs.declared.evidence.EntryPart.TheVariants as part
use Rattle.spv_evidence.specs.declared.evidence.Lister.{Lister}
use Rattle.spv_evidence.specs.declared.evidence.Lister.TheVariants as lister

-- The operand of that number breaks M1, where these are those of an OpMemoryModel. Operands count from 0.
pub data IsOtherModel (os : List Plain) : ℕ → Type 0 where
  -- the first is neither Physical32 (1) nor Physical64 (2)
  addressing : ((k a : ℕ) → slice_get os 0 ≡ Some (Value k a) → (a ≢ 1) × (a ≢ 2)) → IsOtherModel os 0
  -- the second is not OpenCL (2)
  memory : ((k m : ℕ) → slice_get os 1 ≡ Some (Value k m) → m ≢ 2) → IsOtherModel os 1
  -- there is a third
  more : (o : Plain) → slice_get os 2 ≡ Some o → IsOtherModel os 2

-- What lists capabilities at instruction i is not covered: the module has none of them.
pub data IsUncovered (G : Table) (is : List PlainInst) (i : PlainInst) : Lister → Type 0 where
  -- the entry of its opcode
  entry : ¬ (IsCoveredEntry G is i.opcode) → IsUncovered G is i lister.Entry
  -- operand k: the value v of a kind other than Capability
  value : (k j v : ℕ) → slice_get i.operands k ≡ Some (Value j v) → IsOtherKind G j
      → ¬ (IsCoveredValue G is j v) → IsUncovered G is i (lister.Value k)
  -- the set bit b of operand k: a mask of a kind other than Capability
  bit : (k j m b : ℕ) → slice_get i.operands k ≡ Some (Mask j m) → IsOtherKind G j → Contains (set_bits m) b
      → ¬ (IsCoveredValue G is j b) → IsUncovered G is i (lister.Bit k b)
  -- its width or count
  width : i.opcode ≢ opcode.TYPE_IMAGE → i.opcode ≢ opcode.TYPE_SAMPLER → ¬ (HasNeeded G is (needs_of i))
      → IsUncovered G is i lister.Width
  -- the image or sampler type that it declares: the module has not ImageBasic (13)
  type : (i.opcode ≡ opcode.TYPE_IMAGE) ⊎ (i.opcode ≡ opcode.TYPE_SAMPLER) → ¬ (Has G is 13)
      → IsUncovered G is i lister.Type
  -- the access qualifier ReadWrite of the image type that it declares: the module has not ImageReadWrite (14)
  access : i.opcode ≡ opcode.TYPE_IMAGE → is_read_write (slice_get i.operands 8) ≡ true → ¬ (Has G is 14)
      → IsUncovered G is i lister.Access

-- Instruction i, of number n, breaks this part of E2: an OpEntryPoint, OpExecutionMode, OpExecutionModeId or
-- OpFunction.
pub data IsUnsound (G : Table) (is : List PlainInst) (n : ℕ) (i : PlainInst) : EntryPart → Type 0 where
  -- the first operand of the OpEntryPoint is not the execution model Kernel (6)
  model : i.opcode ≡ opcode.ENTRY_POINT → ((k m : ℕ) → slice_get i.operands 0 ≡ Some (Value k m) → m ≢ 6)
      → IsUnsound G is n i part.Model
  -- its function is not that of a definition
  declared : i.opcode ≡ opcode.ENTRY_POINT
      → ((x f : ℕ) → entered_by i ≡ Some x → IsDefinedAt is x f → ¬ (IsDefinition is f))
      → IsUnsound G is n i part.Declared
  -- its function does not return void
  returns : i.opcode ≡ opcode.ENTRY_POINT
      → ((x f : ℕ) → entered_by i ≡ Some x → IsDefinedAt is x f → ¬ (ReturnsVoid is f))
      → IsUnsound G is n i part.Returns
  -- instruction c, an OpFunctionCall, calls its function
  called : (x c : ℕ) (call : PlainInst) → entered_by i ≡ Some x → slice_get is c ≡ Some call
      → called_by call ≡ Some x
      → IsUnsound G is n i (part.Called c)
  -- the function of the OpExecutionMode or OpExecutionModeId is that of no OpEntryPoint
  unnamed : (i.opcode ≡ opcode.EXECUTION_MODE) ⊎ (i.opcode ≡ opcode.EXECUTION_MODE_ID)
      → ¬ (IsSoundMode is i.operands) → IsUnsound G is n i part.Unnamed
  -- the OpFunction is that of a definition, and an OpDecorate imports it
  imported : (a : IsImported G is n) → i.opcode ≡ opcode.FUNCTION → IsDefinition is n
      → IsUnsound G is n i (part.Imported a.place)
  -- the OpFunction is that of a declaration, and is not imported
  missing : i.opcode ≡ opcode.FUNCTION → ¬ (IsDefinition is n) → ¬ (IsImported G is n)
      → IsUnsound G is n i part.Missing

-- The evidence shows that the rule is broken at instruction n. C1, M1 and E1 are asked at OpMemoryModel.
pub data IsEvidence (G : Table) (is : List PlainInst) : Rule → ℕ → Evidence → Type 0 where
  -- the module has not Kernel (6)
  no_kernel : (n : ℕ) → HasOpcode is n opcode.MEMORY_MODEL → ¬ (Has G is 6)
      → IsEvidence G is rule.C1 n (evidence.Capability 6 false)
  -- the module has Shader (1)
  shader : (n : ℕ) → HasOpcode is n opcode.MEMORY_MODEL → Has G is 1
      → IsEvidence G is rule.C1 n (evidence.Capability 1 true)
  -- what lists capabilities is not covered
  needs : (n : ℕ) (i : PlainInst) (l : Lister) → slice_get is n ≡ Some i → IsUncovered G is i l
      → IsEvidence G is rule.C2 n (evidence.Needs l)
  -- an operand breaks M1
  model : (n k : ℕ) (i : PlainInst) → slice_get is n ≡ Some i → i.opcode ≡ opcode.MEMORY_MODEL
      → IsOtherModel i.operands k → IsEvidence G is rule.M1 n (evidence.Operand k)
  -- there is no OpEntryPoint, and the module has not Linkage
  no_entry : (n : ℕ) → HasOpcode is n opcode.MEMORY_MODEL → ¬ (HasEntry G is)
      → IsEvidence G is rule.E1 n evidence.NoEntry
  -- a part of E2 is broken
  entry : (n : ℕ) (i : PlainInst) (p : EntryPart) → slice_get is n ≡ Some i → IsUnsound G is n i p
      → IsEvidence G is rule.E2 n (evidence.Entry p)
