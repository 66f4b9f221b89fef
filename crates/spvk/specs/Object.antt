-- The object that explains the verdict on bytes. (Own.)
use Rattle.std.specs.Prelude.{◌≡◌, ℕ, List, Some, None}
use Rattle.spv_table.specs.Table.{Table}
use Rattle.spv_extended.specs.declared.reach.Reach.{Reach}
use Rattle.spv_explain.specs.Json.{IsExplainAnswer}
use Rattle.spv_explain.specs.declared.answers.Answer.{Answer}
use Rattle.spvk.specs.Answer.{Tells}
use Rattle.spvk.specs.Numbers.{numbers_of}
use Rattle.spvk.specs.declared.text.Text.{Text}

-- The verdict on all of these bytes, under the grammar table, and the JSON object that tells and explains it, which has
-- no file's name, with a line feed behind it.
pub record IsTelling (G : Table) (reach : Reach) (bytes : List ℕ) (t : Text) : Type 0 where
  pub tells : Tells G reach bytes t.verdict
  pub answer : Answer
  pub explains : IsExplainAnswer G reach None bytes answer
  pub verdict : t.verdict ≡ numbers_of answer.judgment
  pub text : t.buffer.bytes ≡ Some answer.text.items
