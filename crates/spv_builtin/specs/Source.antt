-- The table of a run. (Own.)
use Rattle.std.specs.Prelude.{◌≡◌, ℕ, List, Option, Some, None, IsUtf8}
use Rattle.serde_json.specs.Data.{Data}
use Rattle.serde_json.specs.Read.{read}
use Rattle.spv_table.specs.Table.{Table}
use Rattle.spv_grammar.specs.Answer.{Gives, text_breaks}
use Rattle.spv_grammar.specs.declared.error.GrammarError.{GrammarError}
use Rattle.spv_grammar.specs.declared.error.GrammarError.TheVariants.{J2}
use Rattle.spv_builtin.specs.BuiltIn.{IsBuiltIn}

-- The text of a grammar file is JSON, and its tree gives the table.
pub record IsGivenBy (text : List ℕ) (G : Table) : Type 0 where
  pub tree : Data
  pub utf8 : IsUtf8 text
  pub is_tree : read text ≡ Some tree
  pub gives : Gives tree G

-- The table of a run with a grammar file of this text, or without one.
abbrev pub IsTableOf : Option (List ℕ) → Table → Type 0
IsTableOf None G = IsBuiltIn G
IsTableOf (Some text) G = IsGivenBy text G

-- The text breaks the code. Where there is none J2 is broken if there is no built-in table.
abbrev pub breaks : Option (List ℕ) → GrammarError → Type 0
breaks None e = (e ≡ J2) × ((G : Table) → ¬ (IsBuiltIn G))
breaks (Some text) e = text_breaks text e
