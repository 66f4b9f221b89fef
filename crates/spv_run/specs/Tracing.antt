-- The trace of a checked module from an entry point. [3.49.5; own]
use Rattle.std.specs.Prelude.{ℕ, List}
use Rattle.spv_table.specs.Table.{Table}
use Rattle.spv_extended.specs.declared.reach.Reach.{Reach}
use Rattle.spv_ids.specs.Definition.{IsDefinedAt}
use Rattle.spv_run.specs.Entry.{IsEntryId, IsOfRun}
use Rattle.spv_run.specs.Run.{IsStart}
use Rattle.spv_run.specs.State.{State}
use Rattle.spv_run.specs.declared.parts.Trace.{Trace}
use Rattle.spv_check.specs.Checked.{IsKept}
use Rattle.spv_check.specs.Program.{Program}

-- The id is an entry point's function, and the trace is of its run from the choices in at most `limit` steps, under the
-- table. [own]
pub record IsRunOf (G : Table) (p : Program) (x : ℕ) (choices : List ℕ) (limit : ℕ) (t : Trace) : Type 0 where
  pub entry : IsEntryId p.insts x
  pub function : ℕ
  pub defined : IsDefinedAt p.insts x function
  pub state : State
  pub start : IsStart p.insts function choices state
  pub run : IsOfRun G p.insts limit state t

-- The same, under some table under which the module keeps all that the layers demand, as far as it was looked at. [own]
pub record IsTraceOf (p : Program) (x : ℕ) (choices : List ℕ) (limit : ℕ) (t : Trace) : Type 0 where
  pub table : Table
  pub reach : Reach
  pub kept : IsKept table reach p
  pub traced : IsRunOf table p x choices limit t
