-- Entry points and execution modes: O3 and O5. [3.49.5]
use Rattle.std.specs.Prelude.{if◌then◌else◌, ◌≡◌, ◌<◌, ℕ, List, ◌∷◌, Option, Some, None, nat_eq, slice_get}
use Rattle.spv_module.specs.declared.opcode.TheConstants as opcode
use Rattle.spv_module.specs.Operand.{Plain, Id, Text, Value, PlainInst}
use Rattle.spv_declarations.specs.Given.{At, HasIdBehind}

-- OpEntryPoint model %f "name" ..: the model and the name [3.49.5]
abbrev pub name_in : List Plain → Option (ℕ × List ℕ)
name_in (Value k model ∷ Id f ∷ Text name ∷ os) = Some (model, name)
name_in _ = None

abbrev pub named_by : PlainInst → Option (ℕ × List ℕ)
named_by i = if nat_eq i.opcode opcode.ENTRY_POINT then name_in i.operands else None

-- O3: an OpEntryPoint before n has the model and the name of n. [3.49.5]
pub record IsRepeated (is : List PlainInst) (n : ℕ) : Type 0 where
  pub inst : PlainInst
  pub there : slice_get is n ≡ Some inst
  pub model : ℕ
  pub name : List ℕ
  pub named : named_by inst ≡ Some (model, name)
  pub before : ℕ
  pub lower : before < n
  pub other : PlainInst
  pub other_there : slice_get is before ≡ Some other
  pub same : named_by other ≡ Some (model, name)

-- O5: the instruction is OpExecutionMode %f mode .., where an id stands behind the mode. [3.49.5]
abbrev pub SetsById : PlainInst → Type 0
SetsById i = (i.opcode ≡ opcode.EXECUTION_MODE) × HasIdBehind i.operands

abbrev pub TakesId : List PlainInst → ℕ → Type 0
TakesId is n = At is SetsById n
