-- What explains the verdict on bytes. (Own.)
use Rattle.std.specs.Prelude.{◌≡◌, ◌++◌, ℕ, List, Some}
use Rattle.spv_table.specs.Table.{Table}
use Rattle.spv_extended.specs.declared.reach.Reach.{Reach}
use Rattle.spv_check.specs.Verdict.{IsVerdict}
use Rattle.spv_explain.specs.Stream.{AreOthers, Explain, ExplainDead}
use Rattle.spv_facts.specs.declared.fact.Detail.TheVariants.{Short}
use Rattle.spvk.specs.Answer.{Tells}
use Rattle.spvk.specs.declared.text.Text.{Text}

-- The verdict on all of these bytes, under the grammar table, and its line with the lines that explain it, in short.
pub record IsExplaining (G : Table) (reach : Reach) (bytes : List ℕ) (t : Text) : Type 0 where
  pub tells : Tells G reach bytes t.verdict
  pub line : List ℕ
  pub lines : List ℕ
  pub verdict : IsVerdict G reach bytes line
  pub explain : Explain Short G reach bytes lines
  pub dead : ExplainDead Short G bytes lines
  pub others : AreOthers bytes line lines
  pub text : t.buffer.bytes ≡ Some (line ++ lines)
