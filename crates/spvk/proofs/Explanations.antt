-- What an explanation is for C.
use Rattle.std.proofs.Common.{◌≡◌, ◌++◌, ℕ, List, Some, string_bytes}
use Rattle.spv_table.specs.Table.{Table}
use Rattle.spv_extended.specs.declared.reach.Reach.{Reach}
use Rattle.spv_explain.specs.Stream.{IsExplanation}
use Rattle.spv_facts.specs.declared.fact.Detail.TheVariants.{Short}
use Rattle.spv_explain.specs.declared.stream.Explanation.{Explanation}
use Rattle.spv_check.specs.Text.{line_of}
use Rattle.spvk.specs.Explain.{IsExplaining}
use Rattle.spvk.specs.Numbers.{numbers_of}
use Rattle.spvk.specs.declared.text.Text.{Text}

pub explained : (G : Table) (reach : Reach) (bytes : List ℕ) (e : Explanation) (t : Text)
    → IsExplanation Short G reach bytes e
    → t.verdict ≡ numbers_of e.judgment → t.buffer.bytes ≡ Some (line_of e.judgment ++ string_bytes e.lines)
    → IsExplaining G reach bytes t
explained G reach bytes e t is verdict buffer = record {
  tells = record { judgment = e.judgment; line = is.verdict; told = verdict };
  line = line_of e.judgment;
  lines = string_bytes e.lines;
  verdict = is.verdict;
  explain = is.explain;
  dead = is.dead;
  others = is.others;
  text = buffer;
}
