-- The grammar file of a table. (Own.)
use Rattle.std.specs.Prelude.{◌≡◌, ℕ, List, Some}
use Rattle.serde_json.specs.Read.{read}
use Rattle.serde_json.specs.Written.{compact_text}
use Rattle.spv_table.specs.Table.{Table}
use Rattle.spv_grammar.specs.Tree.{grammar_tree}

-- The text is the grammar file of the table: the tree in JSON without white space. It reads as the tree.
pub record IsGrammarText (G : Table) (text : List ℕ) : Type 0 where
  pub compact : text ≡ compact_text (grammar_tree G)
  pub reads_back : read text ≡ Some (grammar_tree G)
