-- What is promised of runs.
use Rattle.std.specs.Prelude.{◌≡◌, ◌≢◌, ◌<◌, ℕ, List, Some, length}
use Rattle.std.specs.List.{AllByRecursion}
use Rattle.spv_table.specs.Table.{Table}
use Rattle.spv_module.specs.Operand.{PlainInst}
use Rattle.spv_module.specs.Width.{type_of}
use Rattle.spv_run.specs.State.{Frame, State, Stuck, Ending, bound_type}
use Rattle.spv_run.specs.Run.{IsStart, Run, Reaches}
use Rattle.spv_run.specs.declared.parts.Step.{Step}
use Rattle.spv_run.specs.Definitions.{AreDefinitions}

-- each id that is bound in a frame has its declared type [own]
abbrev pub IsDeclaredIn : List PlainInst → Frame → Type 0
IsDeclaredIn is fr = (x t : ℕ) → bound_type fr.bound x ≡ Some t → type_of is x ≡ Some t

-- A run of at most n steps that does not get stuck. [own]
pub record Runs (G : Table) (is : List PlainInst) (n : ℕ) (s : State) : Type 0 where
  pub steps : List Step
  pub ending : Ending
  pub run : Run G is n s steps ending
  pub free : ending ≢ Stuck

-- Of an entry point's function and choices: there is a start; of each number of steps there is a run, and no run gets
-- stuck; in each state that is reached each bound id has its declared type; and each step has fewer frames below it
-- than there are definitions, listed in any way. [own]
pub record NeverGetsStuck (G : Table) (is : List PlainInst) (g : ℕ) (choices : List ℕ) : Type 0 where
  pub starts : (s : State) × IsStart is g choices s
  pub runs : (s : State) (n : ℕ) → IsStart is g choices s → Runs G is n s
  pub free : (s : State) (n : ℕ) (steps : List Step) (e : Ending) → IsStart is g choices s → Run G is n s steps e
      → e ≢ Stuck
  pub declared : (s after : State) → IsStart is g choices s → Reaches G is s after → IsDeclaredIn is after.top
      × AllByRecursion (IsDeclaredIn is) after.below
  pub bounded : (functions : List ℕ) → AreDefinitions is functions
      → (s : State) (n : ℕ) (steps : List Step) (e : Ending) → IsStart is g choices s → Run G is n s steps e
      → AllByRecursion (λ step. step.depth < length functions) steps
