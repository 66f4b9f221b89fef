-- Where the bodies of functions begin, as it is found of a module. (For the code alone.)
use Rattle.std.specs.Prelude.{◌≡◌, ◌<◌, ℕ, List, Some, slice_get}
use Rattle.spv_module.specs.Operand.{PlainInst}
use Rattle.spv_module.specs.declared.opcode.TheConstants as opcode
use Rattle.spv_table.specs.Table.{Table}
use Rattle.spv_run.specs.Act.{Function}
use Rattle.spv_run.specs.At.{act_at}
use Rattle.spv_run.specs.Sound.{KeepsRules}
use Rattle.spv_run.specs.Head.{Binding, IsDefined, IsDeclared}

-- the OpLabel with which a function's body begins, or 0 of a declaration
pub data IsEntry (is : List PlainInst) (g : ℕ) : ℕ → Type 0 where
  defined : (e : ℕ) (bs : List Binding) → IsDefined is g e bs → IsEntry is g e
  declared : (e : ℕ) (bs : List Binding) → IsDeclared is g e bs → IsEntry is g 0

-- the list has at the number of each function where its body begins
abbrev pub HaveEntries : List PlainInst → List ℕ → Type 0
HaveEntries is es = (G : Table) (bound g : ℕ) → KeepsRules G bound is → act_at is g ≡ Some Function
    → (e : ℕ) × (slice_get es g ≡ Some e) × IsEntry is g e

-- the same, of the functions before an instruction
pub record HaveEntriesBefore (is : List PlainInst) (n : ℕ) (es : List ℕ) : Type 0 where
  pub each : (G : Table) (bound g : ℕ) → KeepsRules G bound is → g < n → act_at is g ≡ Some Function
      → (e : ℕ) × (slice_get es g ≡ Some e) × IsEntry is g e

-- between two instructions there is no OpLabel (248) and no OpFunctionEnd (56)
pub record IsHead (is : List PlainInst) (f n : ℕ) : Type 0 where
  pub label : (k : ℕ) (i : PlainInst) → f < k → k < n → slice_get is k ≡ Some i → ¬ (i.opcode ≡ opcode.LABEL)
  pub over : (k : ℕ) (i : PlainInst) → f < k → k < n → slice_get is k ≡ Some i → ¬ (i.opcode ≡ opcode.FUNCTION_END)
