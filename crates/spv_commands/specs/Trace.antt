-- What `trace` writes of a stream of bytes. (Own.)
use Rattle.std.specs.Prelude.{◌≡◌, ◌≢◌, ◌≤◌, ◌⊎◌, ◌++◌, Ok, Err, ℕ, List, Option, Some, Bool, true, false}
use Rattle.std.specs.Prelude.{length, take, codes, decimal, flat_map}
use Rattle.spv_words.specs.Header.{IsModule}
use Rattle.spv_words.specs.declared.words.Order.{Order}
use Rattle.spv_table.specs.Table.{Table}
use Rattle.spv_extended.specs.declared.reach.Reach.{Reach}
use Rattle.spv_module.specs.Operand.{PlainInst}
use Rattle.spv_names.specs.Chosen.{IsChosen}
use Rattle.spv_names.specs.declared.chosen.Chosen.{Chosen}
use Rattle.spv_names.specs.declared.chosen.NameError.TheVariants.{Absent, Several}
use Rattle.spv_run.specs.Entry.{IsEntryId}
use Rattle.spv_run.specs.declared.parts.Ending.{Ending}
use Rattle.spv_run.specs.declared.parts.Ending.TheVariants.{Finished, Unreachable, Limit, NoChoice, BadChoice}
use Rattle.spv_run.specs.declared.parts.Step.{Step}
use Rattle.spv_run.specs.declared.parts.Trace.{Trace}
use Rattle.spv_check.specs.Checked.{IsChecked}
use Rattle.spv_check.specs.Program.{Program}
use Rattle.spv_run.specs.Tracing.{IsRunOf}
use Rattle.spv_check.specs.Verdict.{IsVerdict, line_end, valid_line}

-- `0 12` as an example: how many frames are below the step's own, and its instruction, both from 0
abbrev pub step_line : Step → List ℕ
step_line s = decimal s.depth ++ codes " " ++ decimal s.inst ++ line_end

-- how the run ends
abbrev pub ending_line : Ending → List ℕ
ending_line Finished = codes "end finished" ++ line_end
ending_line Unreachable = codes "end unreachable" ++ line_end
ending_line Limit = codes "end limit" ++ line_end
ending_line NoChoice = codes "end nochoice" ++ line_end
ending_line BadChoice = codes "end badchoice" ++ line_end

-- the text of a trace: a line for each step, in order, and that of the end
abbrev pub trace_text : List Step → Ending → List ℕ
trace_text steps e = flat_map step_line steps ++ ending_line e

-- The bytes are a module that is valid under the grammar table, with this bound and these instructions, as they
-- are looked at.
pub record IsProgram (G : Table) (reach : Reach) (bytes : List ℕ) (p : Program) : Type 0 where
  pub words : List ℕ
  pub order : Order
  pub is_module : IsModule order bytes words
  pub checked : IsChecked G reach words p

-- This is what is written of all of these bytes for a function, choices and a limit, under the grammar table, and
-- whether it is the text of a trace.
pub data IsTracing (G : Table) (reach : Reach) (function : Chosen) (choices : List ℕ) (limit : ℕ)
    (bytes : List ℕ) : List ℕ
    → Bool → Type 0 where
  -- they are no valid module: their verdict line
  judged : (line : List ℕ) → IsVerdict G reach bytes line → line ≢ valid_line
      → IsTracing G reach function choices limit bytes line false
  -- they are a valid module, and the function is an entry point's: the text of the trace of its run
  traced : (p : Program) (id : ℕ) (t : Trace) → IsProgram G reach bytes p → IsChosen p.insts function (Ok id)
      → IsRunOf G p id choices limit t
      → IsTracing G reach function choices limit bytes (trace_text t.steps.items t.ending) true

-- A writer that held the bytes `old` now also holds what is written of the bytes, and nothing else; the answer tells
-- whether it is the text of a trace.
pub record Traces (G : Table) (reach : Reach) (function : Chosen) (choices : List ℕ) (limit : ℕ) (bytes old : List ℕ)
    (new : Option (List ℕ)) (answer : Bool) : Type 0 where
  pub output : List ℕ
  pub tracing : IsTracing G reach function choices limit bytes output answer
  pub written : new ≡ Some (old ++ output)

-- A writer that held the bytes `old` now also holds a beginning of what is written, and nothing else.
pub record BeginsTracing (G : Table) (reach : Reach) (function : Chosen) (choices : List ℕ) (limit : ℕ)
    (bytes old : List ℕ) (new : Option (List ℕ)) : Type 0 where
  pub output : List ℕ
  pub answer : Bool
  pub tracing : IsTracing G reach function choices limit bytes output answer
  pub count : ℕ
  pub fits : count ≤ length output
  pub written : new ≡ Some (old ++ take count output)

-- The name is that of no function, or the id is no entry point's function.
abbrev pub IsNoEntry : List PlainInst → Chosen → Type 0
IsNoEntry is function =
    IsChosen is function (Err Absent) ⊎ ((id : ℕ) × IsChosen is function (Ok id) × ¬ (IsEntryId is id))

-- The bytes are a valid module, and the function is no entry point's in it.
pub record HasNoEntry (G : Table) (reach : Reach) (bytes : List ℕ) (function : Chosen) : Type 0 where
  pub program : Program
  pub valid : IsProgram G reach bytes program
  pub none : IsNoEntry program.insts function

-- The bytes are a valid module, and several functions in it have the name of the function.
pub record HasSeveral (G : Table) (reach : Reach) (bytes : List ℕ) (function : Chosen) : Type 0 where
  pub program : Program
  pub valid : IsProgram G reach bytes program
  pub several : IsChosen program.insts function (Err Several)
