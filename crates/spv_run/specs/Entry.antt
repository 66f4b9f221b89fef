-- Runs from entry points, as a caller is told of them. [3.49.5; own]
use Rattle.std.specs.Prelude.{◌≡◌, ◌<◌, ℕ, List, Some, length, slice_get}
use Rattle.std.specs.List.{AllByRecursion}
use Rattle.spv_table.specs.Table.{Table}
use Rattle.spv_module.specs.declared.opcode.TheConstants as opcode
use Rattle.spv_module.specs.Operand.{PlainInst, Id}
use Rattle.spv_ids.specs.declared.ids.Ids.{Ids}
use Rattle.spv_ids.specs.Definition.{IsDefinedAt}
use Rattle.spv_ids.specs.Outcome.{AreNumbered}
use Rattle.spv_run.specs.declared.parts.Step.{Step}
use Rattle.spv_run.specs.declared.parts.Trace.{Trace}
use Rattle.spv_run.specs.declared.parts.TraceError.{TraceError}
use Rattle.spv_run.specs.declared.parts.TraceError.TheVariants.{NoEntry, Memory}
use Rattle.spv_run.specs.Definitions.{AreDefinitions}
use Rattle.spv_run.specs.Sound.{KeepsRules}
use Rattle.spv_run.specs.State.{State}
use Rattle.spv_run.specs.Run.{IsStart, Run}
use Rattle.spv_run.specs.Trace.{ending_of}

-- An OpEntryPoint names the id as its function. [own]
pub record IsEntryId (is : List PlainInst) (x : ℕ) : Type 0 where
  pub place : ℕ
  pub inst : PlainInst
  pub there : slice_get is place ≡ Some inst
  pub opcode : inst.opcode ≡ opcode.ENTRY_POINT
  pub named : slice_get inst.operands 1 ≡ Some (Id x)

-- The trace is of the run from a state in at most `limit` steps, and each step has fewer frames below it than there are
-- definitions, listed in any way. [own]
pub record IsOfRun (G : Table) (is : List PlainInst) (limit : ℕ) (s : State) (t : Trace) : Type 0 where
  pub run : Run G is limit s t.steps.items (ending_of t.ending)
  pub bounded : (functions : List ℕ) → AreDefinitions is functions
      → AllByRecursion (λ (step : Step). step.depth < length functions) t.steps.items

-- The id is an entry point's function, and where no rule is broken the trace is of its run.
pub record IsTraced (is : List PlainInst) (ids : Ids) (x : ℕ) (choices : List ℕ) (limit : ℕ)
    (t : Trace) : Type 0 where
  pub entry : IsEntryId is x
  pub run : (G : Table) (bound g : ℕ) (s : State) → KeepsRules G bound is → AreNumbered is ids
      → IsDefinedAt is x g → IsStart is g choices s → IsOfRun G is limit s t

-- NoEntry is answered of an id that is no entry point's function; out of memory only of one that is. [own]
abbrev pub RefusesEntry : List PlainInst → ℕ → TraceError → Type 0
RefusesEntry is x NoEntry = ¬ (IsEntryId is x)
RefusesEntry is x Memory = IsEntryId is x
