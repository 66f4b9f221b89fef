-- What a call answers to C. (Own.)
use Rattle.std.specs.Prelude.{◌≡◌, ℕ, List, Option, Some, None}
use Rattle.spv_table.specs.Table.{Table}
use Rattle.spv_extended.specs.declared.reach.Reach.{Reach}
use Rattle.spv_check.specs.declared.verdict_line.Judgment.{Judgment}
use Rattle.spv_check.specs.Verdict.{IsVerdict}
use Rattle.spv_check.specs.Text.{line_of}
use Rattle.spv_scope.specs.Scope.{reach_of, taken}
use Rattle.spv_scope.specs.declared.scope.Scope.{Scope}
use Rattle.spvk.specs.Flags.{asked_by}
use Rattle.spvk.specs.declared.numbers.Answer.{Answer}
use Rattle.spvk.specs.declared.numbers.Verdict.{Verdict}
use Rattle.spvk.specs.Numbers.{nowhere, numbers_of}
use denote.RawPtr.{Ptr, block_ptr, null_ptr}

-- The numbers are those of the verdict whose line is the verdict line of the bytes.
pub record Tells (G : Table) (reach : Reach) (bytes : List ℕ) (numbers : Verdict) : Type 0 where
  pub judgment : Judgment
  pub line : IsVerdict G reach bytes (line_of judgment)
  pub told : numbers ≡ numbers_of judgment

-- a status and no verdict
abbrev pub status_alone : ℕ → Answer
status_alone status = record { status = status; code = nowhere; inst = nowhere; word = nowhere }

-- The answer of a check: status 0 and the verdict, or status 1, out of memory.
pub data Answers (G : Table) (reach : Reach) (bytes : List ℕ) : Answer → Type 0 where
  told : (v : Verdict) → Tells G reach bytes v
      → Answers G reach bytes (record { status = 0; code = v.code; inst = v.inst; word = v.word })
  unanswered : Answers G reach bytes (status_alone 1)

-- The same by the table behind a pointer: status 2 where it is null.
abbrev pub AnswersAt : Ptr → Table → Reach → List ℕ → Answer → Type 0
AnswersAt null_ptr G reach bytes answer = answer ≡ status_alone 2
AnswersAt (block_ptr b o) G reach bytes answer = Answers G reach bytes answer

-- The answer by what flags ask for: status 5 where they ask for nothing that there is.
abbrev pub AnswersAsked : Option Scope → Table → List ℕ → Answer → Type 0
AnswersAsked None G bytes answer = answer ≡ status_alone 5
AnswersAsked (Some scope) G bytes answer = Answers G (reach_of scope bytes) (taken scope bytes) answer

-- The same by flags, and by the table behind a pointer: status 2 where it is null.
abbrev pub AnswersWith : Ptr → Table → ℕ → List ℕ → Answer → Type 0
AnswersWith null_ptr G flags bytes answer = answer ≡ status_alone 2
AnswersWith (block_ptr b o) G flags bytes answer = AnswersAsked (asked_by flags) G bytes answer
