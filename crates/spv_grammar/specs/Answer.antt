-- What a tree answers: the table that it gives, or the least code that it breaks. (Own.)
use Rattle.std.specs.Prelude.{◌≡◌, ℕ, List, IsUtf8, Option, Some, None, if◌then◌else◌}
use Rattle.serde_json.specs.Data.{Data}
use Rattle.serde_json.specs.Read.{read}
use Rattle.spv_grammar.specs.declared.error.GrammarError.{GrammarError}
use Rattle.spv_grammar.specs.declared.error.GrammarError.TheVariants.{J1, J2, J3, J4, J5, J6, J7}
use Rattle.spv_grammar.specs.declared.file.File.{File}
use Rattle.spv_table.specs.Table.{Table}
use Rattle.spv_grammar.specs.Kinds.{first_kinds}
use Rattle.spv_grammar.specs.File.{file_of}
use Rattle.spv_grammar.specs.Rules.{has_numbers, has_kinds, is_known, has_results, has_bases}
use Rattle.spv_grammar.specs.Made.{IsTable}

-- the least of J3 to J7 that a file breaks
abbrev pub file_breaks : File → Option GrammarError
file_breaks file =
    if has_numbers file then
    (if has_kinds (first_kinds file.kinds) file then
    (if is_known file then
    (if has_results (first_kinds file.kinds) file then
    (if has_bases (first_kinds file.kinds) file then None else Some J7)
    else Some J6)
    else Some J5)
    else Some J4)
    else Some J3

-- the least code that a tree breaks: J2 if it can't be read as a file
abbrev pub read_breaks : Option File → Option GrammarError
read_breaks None = Some J2
read_breaks (Some file) = file_breaks file

abbrev pub tree_breaks : Data → Option GrammarError
tree_breaks d = read_breaks (file_of d)

-- a tree that breaks no code gives a table
pub record Gives (d : Data) (G : Table) : Type 0 where
  pub file : File
  pub is_file : file_of d ≡ Some file
  pub unbroken : file_breaks file ≡ None
  pub table : IsTable file G

-- Some file gives the table.
abbrev pub IsGiven : Table → Type 0
IsGiven G = (d : Data) × Gives d G

-- a text that is no JSON breaks J1, and another what its tree breaks
abbrev pub text_breaks : List ℕ → GrammarError → Type 0
text_breaks text J1 = IsUtf8 text → read text ≡ None
text_breaks text e = (d : Data) × IsUtf8 text × (read text ≡ Some d) × (tree_breaks d ≡ Some e)
