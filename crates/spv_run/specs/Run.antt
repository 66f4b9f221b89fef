-- Runs. (Own.)
use Rattle.std.specs.Prelude.{◌≡◌, ℕ, zero, suc, List, [], ◌∷◌, length}
use Rattle.spv_table.specs.Table.{Table}
use Rattle.spv_module.specs.Operand.{PlainInst}
use Rattle.spv_run.specs.Head.{Binding, IsDefined}
use Rattle.spv_run.specs.declared.parts.Step.{Step}
use Rattle.spv_run.specs.State.{Ending, Limit, Stuck, State, Outcome, Goes, Last, Before, enter}
use Rattle.spv_run.specs.Machine.{Does}

-- a step: the instruction that was executed, and how many frames were below its own [own]
abbrev pub step_of : State → Step
step_of s = record { depth = length s.below; inst = s.top.position }

-- the state at the entry of a function, its parameters bound to their declared types [own]
pub record IsStart (is : List PlainInst) (g : ℕ) (choices : List ℕ) (s : State) : Type 0 where
  pub entry : ℕ
  pub parameters : List Binding
  pub defined : IsDefined is g entry parameters
  pub start : s ≡ record { top = enter g entry parameters; below = []; choices = choices }

-- In at most n steps from a state these steps are done, and the run ends so. [own]
pub data Run (G : Table) (is : List PlainInst) : ℕ → State → List Step → Ending → Type 0 where
  limit : (s : State) → Run G is zero s [] Limit
  next : (n : ℕ) (s after : State) (steps : List Step) (e : Ending) → Does G is s (Goes after)
      → Run G is n after steps e → Run G is (suc n) s (step_of s ∷ steps) e
  last : (n : ℕ) (s : State) (e : Ending) → Does G is s (Last e) → Run G is (suc n) s (step_of s ∷ []) e
  before : (n : ℕ) (s : State) (e : Ending) → Does G is s (Before e) → Run G is (suc n) s [] e
  stuck : (n : ℕ) (s : State) → ((o : Outcome) → ¬ (Does G is s o)) → Run G is (suc n) s [] Stuck

-- Steps lead from one state to another. [own]
pub data Reaches (G : Table) (is : List PlainInst) (s : State) : State → Type 0 where
  none : Reaches G is s s
  more : (mid after : State) → Reaches G is s mid → Does G is mid (Goes after) → Reaches G is s after
