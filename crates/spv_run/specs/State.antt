-- The states of the machine. (Own.)
use Rattle.std.specs.Prelude.{ℕ, suc, List, [], ◌∷◌, Option, Some, None, nat_eq, if◌then◌else◌}
use Rattle.spv_module.specs.Operand.{PlainInst}
use Rattle.spv_run.specs.At.{result_at}
use Rattle.spv_run.specs.Head.{Binding}

-- how a run ends [own]
pub data Ending : Type 0 where
  Finished : Ending
  Unreachable : Ending
  Limit : Ending
  NoChoice : Ending
  BadChoice : Ending
  Stuck : Ending

-- A function that runs: the number of its OpFunction, the instruction at which it stands, the OpLabel of the block
-- that it came from, and the types of the ids that are bound, the last bound first. [own]
pub record Frame : Type 0 where
  pub function : ℕ
  pub position : ℕ
  pub came_from : Option ℕ
  pub bound : List Binding

-- the function that runs, those that called it, the last first, and the choices left [own]
pub record State : Type 0 where
  pub top : Frame
  pub below : List Frame
  pub choices : List ℕ

-- what comes of a state [own]
pub data Outcome : Type 0 where
  -- a step, and the state after it
  Goes : State → Outcome
  -- a step, the last
  Last : Ending → Outcome
  -- an end before the step
  Before : Ending → Outcome

-- the type to which an id was bound last [own]
abbrev pub bound_type : List Binding → ℕ → Option ℕ
bound_type [] x = None
bound_type (b ∷ bs) x = if nat_eq b.id x then Some b.tag else bound_type bs x

-- the frame with one id more bound [own]
abbrev pub bind : Option ℕ → Option ℕ → List Binding → List Binding
bind (Some x) (Some t) bs = record { id = x; tag = t } ∷ bs
bind _ _ bs = bs

-- the frame after its instruction, whose result, if it has one, is bound to the type [own]
abbrev pub advance : List PlainInst → Frame → Option ℕ → Frame
advance is fr tag = record {
  function = fr.function;
  position = suc fr.position;
  came_from = fr.came_from;
  bound = bind (result_at is fr.position) tag fr.bound;
}

-- the frame at an OpLabel, come from the block b [own]
abbrev pub jump : Frame → ℕ → ℕ → Frame
jump fr b m = record { function = fr.function; position = m; came_from = Some b; bound = fr.bound }

-- the frame at the entry of a function [own]
abbrev pub enter : ℕ → ℕ → List Binding → Frame
enter g e bs = record { function = g; position = e; came_from = None; bound = bs }

-- parameters bound to other types, in order [own]
abbrev pub rebind : List Binding → List ℕ → List Binding
rebind (b ∷ bs) (t ∷ ts) = record { id = b.id; tag = t } ∷ rebind bs ts
rebind _ _ = []

-- A return pops its frame, and the call's result is bound to the type that comes back. [own]
abbrev pub returned : List PlainInst → List Frame → List ℕ → ℕ → Outcome
returned is [] cs t = Last Finished
returned is (fr ∷ below) cs t = Goes (record { top = advance is fr (Some t); below = below; choices = cs })

-- the state with another running frame [own]
abbrev pub with_top : State → Frame → State
with_top s fr = record { top = fr; below = s.below; choices = s.choices }
