-- The machine: its states, and its steps. (Own; by the instructions of 3.49.9 and 3.49.17.)
use Rattle.std.specs.Prelude.{◌≡◌, ℕ, List, [], ◌∷◌, Option, Some, None, option_map, option_and_then}
use Rattle.std.specs.Prelude.{slice_get}
use Rattle.spv_table.specs.Table.{Table}
use Rattle.spv_module.specs.Operand.{PlainInst}
use Rattle.spv_module.specs.Width.{type_of}
use Rattle.spv_layout.specs.declared.form.Role.TheVariants.{Any}
use Rattle.spv_layout.specs.Place.{IsOfFunction, IsOfBlock}
use Rattle.spv_ids.specs.Definition.{IsDefinedAt, IsUsedAt, IsLocal}
use Rattle.spv_flow.specs.branches.Target.{IsLabelOf}
use Rattle.spv_flow.specs.branches.Ready.{IsLocalValue}
use Rattle.spv_run.specs.Act.{Act, Label, Phi, Branch, Choose, Call, Return, ReturnValue, Other, act_of}
use Rattle.spv_run.specs.At.{result_at, type_at, value_from}
use Rattle.spv_run.specs.Act as act
use Rattle.spv_run.specs.Head.{Binding, IsDefined, IsDeclared}
use Rattle.spv_run.specs.State.{Unreachable, NoChoice, BadChoice, Frame, State, Outcome, Goes, Last, Before}
use Rattle.spv_run.specs.State.{bound_type}
use Rattle.spv_run.specs.State.{advance, jump, enter, rebind, returned, with_top}
use Rattle.spv_run.specs.Row.{values_of, Row}

-- The id has the type in a frame: it is local and bound to it, or it is not local and declared with it. [own]
pub data Reads (is : List PlainInst) (fr : Frame) (x t : ℕ) : Type 0 where
  bound : IsLocal is x → bound_type fr.bound x ≡ Some t → Reads is fr x t
  declared : ¬ (IsLocal is x) → type_of is x ≡ Some t → Reads is fr x t

-- The ids have these types in a frame, in order. [own]
abbrev pub ReadsAll : List PlainInst → Frame → List ℕ → List ℕ → Type 0
ReadsAll is fr [] [] = Unit {0}
ReadsAll is fr (x ∷ xs) (t ∷ ts) = Reads is fr x t × ReadsAll is fr xs ts
ReadsAll is fr [] (t ∷ ts) = ⊥
ReadsAll is fr (x ∷ xs) [] = ⊥

-- the values whose types are read: of OpPhi the one paired with the block come from [own]
abbrev pub read_values : List PlainInst → Frame → PlainInst → Act → Option (List ℕ)
read_values is fr i (Phi ps) =
    option_map (λ v. v ∷ []) (option_and_then (value_from ps) (option_and_then (result_at is) fr.came_from))
read_values is fr i a = Some (values_of i a)

-- An id that is used in the role any, as a parameter of a mask, is read too where it is a local value. [own]
abbrev pub ReadsOthers : Table → List PlainInst → Frame → Type 0
ReadsOthers G is fr = (k x : ℕ) → IsUsedAt G is fr.position k x Any → IsLocalValue is x
    → (t : ℕ) × Reads is fr x t

-- The frame goes to the label x of its function: the block that it leaves, and where it comes to. [own]
pub record Lands (is : List PlainInst) (fr : Frame) (x : ℕ) (after : Frame) : Type 0 where
  pub block : ℕ
  pub leaves : IsOfBlock is fr.position block
  pub place : ℕ
  pub label : IsLabelOf is x place
  pub inside : IsOfFunction is place fr.function
  pub comes : after ≡ jump fr block place

-- The next choice is the place of the label in the list. [own]
pub record Chooses (cs ls : List ℕ) (x : ℕ) (left : List ℕ) : Type 0 where
  pub choice : ℕ
  pub taken : cs ≡ choice ∷ left
  pub chosen : slice_get ls choice ≡ Some x

-- A call of a definition pushes a frame at its entry, its parameters bound to the arguments' types; of a declaration it
-- binds its result. [own]
pub data Enters (is : List PlainInst) (s : State) (x : ℕ) (tags : List ℕ) (o : Outcome) : Type 0 where
  definition : (g e : ℕ) (bs : List Binding) → IsDefinedAt is x g → IsDefined is g e bs
      → o ≡ Goes (record { top = enter g e (rebind bs tags); below = s.top ∷ s.below; choices = s.choices })
      → Enters is s x tags o
  declaration : (g e : ℕ) (bs : List Binding) → IsDefinedAt is x g → IsDeclared is g e bs
      → o ≡ Goes (with_top s (advance is s.top (type_at is s.top.position))) → Enters is s x tags o

-- Where the instruction leads, with the types read. [own]
abbrev pub Moves : List PlainInst → State → Act → List ℕ → Outcome → Type 0
Moves is s Other tags o = o ≡ Goes (with_top s (advance is s.top (type_at is s.top.position)))
Moves is s Label tags o = o ≡ Goes (with_top s (advance is s.top None))
Moves is s (Phi ps) tags o = (t : ℕ) × (tags ≡ t ∷ []) × (o ≡ Goes (with_top s (advance is s.top (Some t))))
Moves is s (Branch x) tags o = (fr : Frame) × Lands is s.top x fr × (o ≡ Goes (with_top s fr))
Moves is s (Choose c ls) tags o =
    (x : ℕ) × (left : List ℕ) × (fr : Frame) × Chooses s.choices ls x left × Lands is s.top x fr
    × (o ≡ Goes (record { top = fr; below = s.below; choices = left }))
Moves is s (Call x xs) tags o = Enters is s x tags o
Moves is s Return tags o = (t : ℕ) × (type_at is s.top.function ≡ Some t)
    × (o ≡ returned is s.below s.choices t)
Moves is s (ReturnValue v) tags o = (t : ℕ) × (tags ≡ t ∷ []) × (o ≡ returned is s.below s.choices t)
Moves is s act.Unreachable tags o = o ≡ Last Unreachable
Moves is s _ tags o = ⊥

-- What comes of a state. Nothing does where a type is missing, a row does not hold, a phi has no pair for the block
-- come from, a target is no label of the function, or a callee is no function. [own]
pub data Does (G : Table) (is : List PlainInst) (s : State) (o : Outcome) : Type 0 where
  -- a type is read for each value used, the row holds with them, and the instruction leads on
  step : (i : PlainInst) (xs tags : List ℕ) → slice_get is s.top.position ≡ Some i
      → read_values is s.top i (act_of i) ≡ Some xs → ReadsAll is s.top xs tags
      → ReadsOthers G is s.top → Row is s.top.function s.top.position i (act_of i) tags
      → Moves is s (act_of i) tags o → Does G is s o
  -- no choice is left; there is no such target
  no_choice : (i : PlainInst) (c : ℕ) (ls : List ℕ) → slice_get is s.top.position ≡ Some i
      → act_of i ≡ Choose c ls
      → s.choices ≡ [] → o ≡ Before NoChoice → Does G is s o
  bad_choice : (i : PlainInst) (c k : ℕ) (ls left : List ℕ) → slice_get is s.top.position ≡ Some i
      → act_of i ≡ Choose c ls
      → s.choices ≡ k ∷ left → slice_get ls k ≡ None → o ≡ Before BadChoice → Does G is s o
