-- Entry points, execution modes and imports, for E2. A function is named by the number of its OpFunction. [2.4,
-- 2.16.1, 3.17, 3.49.5]
use Rattle.std.specs.Prelude.{◌≡◌, ℕ, List, ◌∷◌, Option, Some, None, nat_eq}
use Rattle.std.specs.Prelude.{◌&&◌, if◌then◌else◌, slice_get}
use Rattle.spv_module.specs.Operand.{Plain, OfType, Result, Id, Text, Value, PlainInst, type_in}
use Rattle.spv_module.specs.declared.opcode.TheConstants as opcode
use Rattle.spv_layout.specs.Place.{IsDefinition}
use Rattle.spv_ids.specs.Definition.{IsDefinedAt}
use Rattle.spv_ids.specs.Order.{HasOpcode}

-- the function that is called, %x = OpFunctionCall %r %f .., or entered, OpEntryPoint model %f .. [3.49.9, 3.49.5]
abbrev pub third_id : List Plain → Option ℕ
third_id (OfType r ∷ Result x ∷ Id f ∷ os) = Some f
third_id _ = None

abbrev pub called_by : PlainInst → Option ℕ
called_by i = if nat_eq i.opcode opcode.FUNCTION_CALL then third_id i.operands else None

abbrev pub second_id : List Plain → Option ℕ
second_id (Value k m ∷ Id f ∷ os) = Some f
second_id _ = None

abbrev pub entered_by : PlainInst → Option ℕ
entered_by i = if nat_eq i.opcode opcode.ENTRY_POINT then second_id i.operands else None

-- the id that an OpDecorate imports: OpDecorate %f LinkageAttributes (41) "name" Import (1) .., where the kind
-- LinkageType has that number [3.49.3]
abbrev pub linked_id : Option ℕ → List Plain → Option ℕ
linked_id (Some l) (Id f ∷ Value k d ∷ Text t ∷ Value j v ∷ os) = if nat_eq d 41 && nat_eq j l && nat_eq v 1
    then Some f else None
linked_id _ _ = None

abbrev pub imported_by : Option ℕ → PlainInst → Option ℕ
imported_by l i = if nat_eq i.opcode opcode.DECORATE then linked_id l i.operands else None

-- Some instruction names, in this way, the id that instruction f defines: a call, an entry point or an import. [3.49.5]
pub record IsNamed (names : PlainInst → Option ℕ) (is : List PlainInst) (f : ℕ) : Type 0 where
  pub place : ℕ
  pub inst : PlainInst
  pub there : slice_get is place ≡ Some inst
  pub id : ℕ
  pub named : names inst ≡ Some id
  pub defined : IsDefinedAt is id f

-- The result type of the function is an OpTypeVoid. [3.49.9]
pub record ReturnsVoid (is : List PlainInst) (f : ℕ) : Type 0 where
  pub inst : PlainInst
  pub there : slice_get is f ≡ Some inst
  pub type : ℕ
  pub returns : type_in inst.operands ≡ Some type
  pub place : ℕ
  pub defined : IsDefinedAt is type place
  pub void : HasOpcode is place opcode.TYPE_VOID

-- The id is that of a function that may be an entry point: a definition, which returns void, and which no
-- OpFunctionCall calls. [2.16.1, 3.49.9]
pub record IsKernelFunction (is : List PlainInst) (x : ℕ) : Type 0 where
  pub function : ℕ
  pub defined : IsDefinedAt is x function
  pub definition : IsDefinition is function
  pub void : ReturnsVoid is function
  pub uncalled : ¬ (IsNamed called_by is function)

-- E2 at an OpEntryPoint: the execution model is Kernel (6), and the id is that of a function that may be an entry
-- point; at an OpExecutionMode or OpExecutionModeId: some OpEntryPoint names its function. [3.49.5]
abbrev pub IsSoundEntry : List PlainInst → List Plain → Type 0
IsSoundEntry is (Value k m ∷ Id x ∷ os) = (m ≡ 6) × IsKernelFunction is x
IsSoundEntry is _ = ⊥

abbrev pub IsSoundMode : List PlainInst → List Plain → Type 0
IsSoundMode is (Id x ∷ os) = (f : ℕ) × IsDefinedAt is x f × IsNamed entered_by is f
IsSoundMode is _ = ⊥
