-- A run without types: what each instruction does, and what comes of it. (For the code alone.)
use Rattle.std.specs.Prelude.{◌≡◌, ℕ, suc, List, [], ◌∷◌, Option, Some, None, reverse, drop, slice_get}
use Rattle.spv_module.specs.Operand.{PlainInst}
use Rattle.spv_table.specs.Table.{Table}
use Rattle.spv_ids.specs.declared.ids.Ids.{Ids}
use Rattle.spv_ids.specs.Definition.{IsDefinedAt}
use Rattle.spv_flow.specs.branches.Target.{IsLabelOf}
use Rattle.spv_flow.specs.calls.Calls.{IsEntryFunction}
use Rattle.spv_ids.specs.Outcome.{AreNumbered}
use Rattle.spv_run.specs.declared.moves.Move.{Move}
use Rattle.spv_run.specs.declared.moves.Move.TheVariants as move
use Rattle.spv_run.specs.declared.parts.Ending.{Ending}
use Rattle.spv_run.specs.declared.parts.Ending.TheVariants.{Finished, Unreachable, NoChoice, BadChoice}
use Rattle.spv_run.specs.declared.parts.Step.{Step}
use Rattle.spv_run.specs.declared.tracer.Walker.{Walker}
use Rattle.spv_run.specs.declared.tracer.Turn.{Turn as CodeTurn}
use Rattle.spv_run.specs.declared.tracer.Turn.TheVariants as declared
use Rattle.spv_run.specs.Act.{Act, Function, Parameter, FunctionEnd, Label, Phi, Branch, Choose, Call, Return}
use Rattle.spv_run.specs.Act.{ReturnValue, Other, act_of}
use Rattle.spv_run.specs.Act as act
use Rattle.spv_run.specs.Head.{Binding, IsDefined, IsDeclared}
use Rattle.spv_run.specs.Sound.{KeepsRules}
use Rattle.spv_run.specs.State as machine
use Rattle.spv_run.specs.Run.{IsStart, Run}
use Rattle.spv_run.specs.inner.Bodies.{HaveEntries}
use Rattle.spv_run.specs.Trace.{ending_of}

-- The move is what the instruction does; what stands outside of bodies does nothing.
abbrev pub Tells : List PlainInst → Act → Move → Type 0
Tells is Function m = Unit {0}
Tells is Parameter m = Unit {0}
Tells is FunctionEnd m = Unit {0}
Tells is act.Misfit m = Unit {0}
Tells is Label move.On = Unit {0}
Tells is (Phi ps) move.On = Unit {0}
Tells is Other move.On = Unit {0}
Tells is (Branch x) (move.Branch n) = IsLabelOf is x n
Tells is (Choose c xs) move.Choose = Unit {0}
Tells is (Call x xs) (move.Call e) = (g : ℕ) × (bs : List Binding) × IsDefinedAt is x g × IsDefined is g e bs
Tells is (Call x xs) move.On = (g e : ℕ) × (bs : List Binding) × IsDefinedAt is x g × IsDeclared is g e bs
Tells is Return move.Return = Unit {0}
Tells is (ReturnValue v) move.Return = Unit {0}
Tells is act.Unreachable move.Unreachable = Unit {0}
Tells is _ _ = ⊥

-- what is kept of a state: where it stands, where the calls that it is in go on, the last one first, and the choices
-- left
pub record Kept : Type 0 where
  pub position : ℕ
  pub callers : List ℕ
  pub choices : List ℕ

abbrev pub kept : Walker → List ℕ → Kept
kept w choices = record { position = w.position; callers = reverse w.callers.items; choices = drop w.taken choices }

pub data Turn : Type 0 where
  Goes : Kept → Turn
  Last : Ending → Turn
  Before : Ending → Turn

abbrev pub turned : CodeTurn → Kept → Turn
turned declared.Goes k = Goes k
turned (declared.Last e) k = Last e
turned (declared.Before e) k = Before e

abbrev pub at : Kept → ℕ → Turn
at k n = Goes (record { position = n; callers = k.callers; choices = k.choices })

abbrev pub at_call : Kept → ℕ → Turn
at_call k e = Goes (record { position = e; callers = suc k.position ∷ k.callers; choices = k.choices })

abbrev pub by_caller : Kept → List ℕ → Turn
by_caller k [] = Last Finished
by_caller k (c ∷ below) = Goes (record { position = c; callers = below; choices = k.choices })

-- A call of a definition goes on at its entry, one of a declaration after itself.
pub data IsCalled (is : List PlainInst) (x : ℕ) (k : Kept) (t : Turn) : Type 0 where
  definition : (g e : ℕ) (bs : List Binding) → IsDefinedAt is x g → IsDefined is g e bs → t ≡ at_call k e
      → IsCalled is x k t
  declaration : (g e : ℕ) (bs : List Binding) → IsDefinedAt is x g → IsDeclared is g e bs
      → t ≡ at k (suc k.position) → IsCalled is x k t

-- The choice leads to the target, if there is one.
abbrev pub ByTarget : List PlainInst → Kept → List ℕ → Option ℕ → Turn → Type 0
ByTarget is k left None t = t ≡ Before BadChoice
ByTarget is k left (Some x) t =
    (n : ℕ) × IsLabelOf is x n × (t ≡ Goes (record { position = n; callers = k.callers; choices = left }))

-- The next of the choices, if there is one, is a place in the list of targets.
abbrev pub ByChoice : List PlainInst → Kept → List ℕ → List ℕ → Turn → Type 0
ByChoice is k xs [] t = t ≡ Before NoChoice
ByChoice is k xs (c ∷ left) t = ByTarget is k left (slice_get xs c) t

-- What comes of the instruction, where so much is kept.
abbrev pub Comes : List PlainInst → Act → Kept → Turn → Type 0
Comes is Function k t = Unit {0}
Comes is Parameter k t = Unit {0}
Comes is FunctionEnd k t = Unit {0}
Comes is act.Misfit k t = Unit {0}
Comes is Label k t = t ≡ at k (suc k.position)
Comes is (Phi ps) k t = t ≡ at k (suc k.position)
Comes is Other k t = t ≡ at k (suc k.position)
Comes is (Branch x) k t = (n : ℕ) × IsLabelOf is x n × (t ≡ at k n)
Comes is (Choose c xs) k t = ByChoice is k xs k.choices t
Comes is (Call x xs) k t = IsCalled is x k t
Comes is Return k t = t ≡ by_caller k k.callers
Comes is (ReturnValue v) k t = t ≡ by_caller k k.callers
Comes is act.Unreachable k t = t ≡ Last Unreachable

-- What comes of the instruction at the position, on a list on which no rule is broken, by what was found of it.
pub record IsTurn (is : List PlainInst) (ids : Ids) (entries : List ℕ) (k : Kept) (t : Turn) : Type 0 where
  pub each : (G : Table) (bound : ℕ) (i : PlainInst) → KeepsRules G bound is → AreNumbered is ids
      → HaveEntries is entries → slice_get is k.position ≡ Some i → Comes is (act_of i) k t

-- The steps and the ending are those of the run, where no rule is broken on the list, from an entry point's function
-- whose body begins at the entry.
abbrev pub IsRun : List PlainInst → Ids → List ℕ → ℕ → List ℕ → ℕ → List Step → Ending → Type 0
IsRun is ids entries entry choices limit steps ending =
    (G : Table) (bound g : ℕ) (s : machine.State)
    → KeepsRules G bound is → AreNumbered is ids → HaveEntries is entries → IsEntryFunction is g
    → IsStart is g choices s → s.top.position ≡ entry
    → Run G is limit s steps (ending_of ending)
