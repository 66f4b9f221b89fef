-- What is written of several files, one after the other. (Own.)
use Rattle.std.specs.Prelude.{◌≡◌, ◌∷◌, ◌++◌, ℕ, List, [], Option, length, max, take}
use Rattle.spv_table.specs.Table.{Table}
use Rattle.spv_builtin.specs.Source.{IsTableOf, breaks}
use Rattle.spv_grammar.specs.declared.error.GrammarError.{GrammarError}
use Rattle.spv_commands.specs.Part.{IsPart, Known}
use Rattle.spv_commands.specs.Trouble.{file_line, grammar_text, memory_line}
use Rattle.spv_commands.specs.declared.judging.Judging.{Judging}

-- What is written of files of these names, in order, and the greatest status. A file is known by how many stand before
-- it, and what is written of it depends on no other.
pub data AreParts (G : Table) (how : Judging) (known : ℕ → Known) : List (List ℕ) → List ℕ → List ℕ → ℕ
    → Type 0 where
  none : AreParts G how known [] [] [] 0
  more : {names : List (List ℕ)} {out err : List ℕ} {status : ℕ} (name part line : List ℕ) (own : ℕ)
      → AreParts G how known names out err status → IsPart G how name (known (length names)) part line own
      → AreParts G how known (names ++ name ∷ []) (out ++ part) (err ++ line) (max status own)

-- How a run on files of these names ends, with a grammar file of this text or without one: what the standard output and
-- the standard error have got, and the exit status. `whole` tells that no write to the standard output failed.
pub data Ends (text : Option (List ℕ)) (how : Judging) (known : ℕ → Known) (names : List (List ℕ))
    (Out Err : List ℕ → Type 0)
    (whole : Type 0) (status : ℕ) : Type 0 where
  -- the grammar is refused
  refused : (e : GrammarError) → breaks text e → Out [] → whole → Err (grammar_text e) → status ≡ 2
      → Ends text how known names Out Err whole status
  -- memory was refused before a file was read
  starved : Out [] → whole → Err memory_line → status ≡ 2 → Ends text how known names Out Err whole status
  -- all files had their turn
  done : (G : Table) (out err : List ℕ) → IsTableOf text G → AreParts G how known names out err status
      → Out out
      → whole → Err err → Ends text how known names Out Err whole status
  -- a write to the standard output failed, after which no other file had its turn
  cut : (G : Table) (count : ℕ) (out err : List ℕ) (so_far : ℕ) → IsTableOf text G
      → AreParts G how known (take count names) out err so_far → Out out → ¬ whole → Err (err ++ file_line)
      → status ≡ 2
      → Ends text how known names Out Err whole status
