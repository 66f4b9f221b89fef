-- What is traced, as the code keeps it. (For the code alone.)
use Rattle.std.specs.Prelude.{◌⊎◌, ℕ, List, Bool, true, false, Ok, Err}
use Rattle.spv_module.specs.Operand.{PlainInst}
use Rattle.spv_names.specs.Chosen.{IsChosen}
use Rattle.spv_names.specs.declared.chosen.Chosen.{Chosen}
use Rattle.spv_names.specs.declared.chosen.NameError.TheVariants.{Absent, Several}
use Rattle.spv_run.specs.Entry.{RefusesEntry}
use Rattle.spv_run.specs.declared.parts.TraceError.{TraceError}
use Rattle.spv_run.specs.declared.parts.TraceError.TheVariants.{NoEntry, Memory}
use Rattle.spv_check.specs.Text.{line_of}
use Rattle.spv_commands.specs.Trace.{trace_text}
use Rattle.spv_commands.specs.declared.trouble.Trouble.{Trouble}
use Rattle.spv_commands.specs.declared.trouble.Trouble.TheVariants as trouble
use Rattle.spv_commands.specs.declared.tracing.Traced.{Traced}
use Rattle.spv_commands.specs.declared.tracing.Traced.TheVariants.{Run, Line}

-- the octets that are written
abbrev pub output_of : Traced → List ℕ
output_of (Run t) = trace_text t.steps.items t.ending
output_of (Line v) = line_of v

-- is it a run
abbrev pub is_run : Traced → Bool
is_run (Run t) = true
is_run (Line v) = false

-- what the error of a trace is told as
abbrev pub traced_stop : TraceError → Trouble
traced_stop NoEntry = trouble.NoEntry
traced_stop Memory = trouble.Memory

-- why a function has no id
abbrev pub WhyNotChosen : List PlainInst → Chosen → Trouble → Type 0
WhyNotChosen is function trouble.NoEntry = IsChosen is function (Err Absent)
WhyNotChosen is function trouble.SeveralFunctions = IsChosen is function (Err Several)
WhyNotChosen is function t = ⊥

-- why a function has no run
abbrev pub WhyNoRun : List PlainInst → Chosen → Trouble → Type 0
WhyNoRun is function trouble.NoEntry =
    IsChosen is function (Err Absent) ⊎ ((id : ℕ) × IsChosen is function (Ok id) × RefusesEntry is id NoEntry)
WhyNoRun is function trouble.SeveralFunctions = IsChosen is function (Err Several)
WhyNoRun is function trouble.Memory = Unit {0}
WhyNoRun is function t = ⊥
