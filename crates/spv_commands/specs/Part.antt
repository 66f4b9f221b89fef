-- What is written of one of several files. (Own.)
use Rattle.std.specs.Prelude.{◌≡◌, ◌++◌, ℕ, List, [], Bool, Option, Some, None, IfSome}
use Rattle.std.specs.Prelude.{◌⊎◌, ◌↔◌, IsTrue, if◌then◌else◌}
use Rattle.spv_table.specs.Table.{Table}
use Rattle.spv_extended.specs.declared.reach.Reach.{Reach}
use Rattle.spv_scope.specs.Scope.{reach_of, taken}
use Rattle.spv_commands.specs.Task.{DoesTask}
use Rattle.spv_commands.specs.Trouble.{file_line, memory_line, trouble_text, unread_of}
use Rattle.spv_commands.specs.declared.trouble.Trouble.{Trouble}
use Rattle.spv_commands.specs.declared.trouble.Trouble.TheVariants.{File, Memory}
use Rattle.spv_command_line.specs.declared.command_line.Task.{Task}
use Rattle.spv_command_line.specs.declared.command_line.Task.TheVariants as tasks
use Rattle.spv_check.specs.declared.verdict_line.Judgment.TheVariants.{Valid}
use Rattle.spv_explain.specs.Json.{IsCheckAnswer, IsExplainAnswer, error_object, json_line}
use Rattle.spv_explain.specs.declared.answers.Answer.{Answer}
use Rattle.spv_commands.specs.declared.judging.Judging.{Judging}
use Rattle.spv_commands.specs.declared.judging.Part.{Part}
use Rattle.spv_commands.specs.declared.judging.Telling.{Telling}
use Rattle.spv_commands.specs.declared.judging.Telling.TheVariants.{Named, Json}
use Rattle.spv_commands.specs.Name.{label}

-- what a file holds, where it is known: its bytes, or none where it does not open or a read of it fails
abbrev pub Known : Type 0
Known = Option (Option (List ℕ))

-- what stands before a verdict: the name of the file, or nothing
abbrev pub heading : Telling → List ℕ → List ℕ
heading Named name = label name
heading _ name = []

-- the object of JSON that a task tells of a module's bytes, with the name of its file
abbrev pub IsAnswerOf : Task → Table → Reach → List ℕ → List ℕ → Answer → Type 0
IsAnswerOf tasks.Check G reach name bytes a = IsCheckAnswer G reach (Some name) bytes a
IsAnswerOf (tasks.Explain full) G reach name bytes a = IsExplainAnswer G reach (Some name) bytes a

-- The text is that object as a line, and it tells whether the module is valid.
pub record TellsObject (task : Task) (G : Table) (reach : Reach) (name bytes out : List ℕ)
    (valid : Bool) : Type 0 where
  pub object : Answer
  pub told : IsAnswerOf task G reach name bytes object
  pub written : out ≡ object.text.items
  pub answered : IsTrue valid ↔ (object.judgment ≡ Valid)

-- What is written of a module's bytes: the object, or the name of the file, if that is asked for, and behind it what
-- the task writes; and whether the module is valid.
abbrev pub Judges : Telling → Task → Table → Reach → List ℕ → List ℕ → List ℕ → Bool → Type 0
Judges Json task G reach name bytes out valid = TellsObject task G reach name bytes out valid
Judges telling task G reach name bytes out valid = DoesTask task G reach bytes (heading telling name) (Some out) valid

-- what the standard output gets of a file that was not read: an object where objects are written, and else nothing
abbrev pub unread_text : Telling → List ℕ → Trouble → List ℕ
unread_text Json name t = json_line (error_object (Some name) (unread_of t))
unread_text _ name t = []

-- the line of why a file was not judged, behind its name; none of one that was
abbrev pub told_line : List ℕ → Option Trouble → List ℕ
told_line name None = []
told_line name (Some t) = label name ++ trouble_text t

-- What is written of one file on the standard output and on the standard error, and the status for it.
pub data IsPart (G : Table) (how : Judging) (name : List ℕ) (known : Known) (out err : List ℕ)
    (status : ℕ) : Type 0 where
  -- it was read: what is written of its bytes, as they are taken; a valid module is 0, and any other 1
  judged : (bytes : List ℕ) (valid : Bool) → IfSome known (λ file. file ≡ Some bytes)
      → Judges how.telling how.task G (reach_of how.scope bytes) name (taken how.scope bytes) out valid → err ≡ []
      → status ≡ (if valid then 0 else 1)
      → IsPart G how name known out err status
  -- it was not
  unread : IfSome known (λ file. file ≡ None) → out ≡ unread_text how.telling name File
      → err ≡ label name ++ file_line → status ≡ 2 → IsPart G how name known out err status
  -- memory was refused, maybe for the object that would tell it too; no clause can tell when
  starved : (out ≡ unread_text how.telling name Memory) ⊎ (out ≡ []) → err ≡ label name ++ memory_line → status ≡ 2
      → IsPart G how name known out err status

-- what is written of a file that was not read for this reason: maybe no object, where memory was refused for it
abbrev pub IsUnread : Judging → List ℕ → Trouble → Part → Type 0
IsUnread how name t part = (part.status ≡ 2)
    × (((part.trouble ≡ Some t) × (part.text.items ≡ unread_text how.telling name t))
    ⊎ ((part.trouble ≡ Some Memory) × (part.text.items ≡ [])))
