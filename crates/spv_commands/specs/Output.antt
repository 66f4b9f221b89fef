-- What a command answers, as bytes. (Own.)
use Rattle.std.specs.Prelude.{ℕ, List, [], Option, Some, None, Bool, true, false, Result, Ok, Err}
use Rattle.std.specs.Prelude.{Vec}
use Rattle.std.specs.Global.{Global}
use Rattle.spv_check.specs.Text.{text_of}
use Rattle.spv_commands.specs.Trace.{trace_text}
use Rattle.spv_commands.specs.Trouble.{trouble_text}
use Rattle.spv_commands.specs.declared.replying.Reply.{Reply}
use Rattle.spv_commands.specs.declared.replying.Reply.TheVariants.{Done, Fault, Made}
use Rattle.spv_commands.specs.declared.outgoing.Output.{Output}
use Rattle.spv_commands.specs.declared.outgoing.Output.TheVariants.{Line, Bytes, Run}
use Rattle.spv_commands.specs.declared.trouble.Trouble.{Trouble}

-- the octets of what is written
abbrev pub output_of : Output → List ℕ
output_of (Line line) = text_of line
output_of (Bytes bytes) = bytes.items
output_of (Run t) = trace_text t.steps.items t.ending

-- what the standard output gets
abbrev pub out_of : Reply → List ℕ
out_of (Done output) = output_of output
out_of (Fault output) = output_of output
out_of (Made bytes) = []

-- what the file that is made gets
abbrev pub made_of : Reply → List ℕ
made_of (Made bytes) = bytes.items
made_of _ = []

-- is it done, and no fault told
abbrev pub is_done : Reply → Bool
is_done (Fault output) = false
is_done _ = true

-- The same of a call that may end with an error: then neither gets anything, and the standard error gets its line.
abbrev pub written_out : Result Reply Trouble → List ℕ
written_out (Ok a) = out_of a
written_out (Err t) = []

abbrev pub written_made : Result Reply Trouble → List ℕ
written_made (Ok a) = made_of a
written_made (Err t) = []

abbrev pub written_err : Result Reply Trouble → List ℕ
written_err (Ok a) = []
written_err (Err t) = trouble_text t

-- the bytes that a file gave, or none where it could not be read
abbrev pub bytes_in : Result (Vec ℕ Global) Trouble → Option (List ℕ)
bytes_in (Ok bytes) = Some bytes.items
bytes_in (Err t) = None

-- the exit status: 0 where it is done, 1 where a fault is told, 2 with an error
abbrev pub status_of : Result Reply Trouble → ℕ
status_of (Ok (Fault output)) = 1
status_of (Ok _) = 0
status_of (Err t) = 2
