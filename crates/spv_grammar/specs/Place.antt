-- Where a grammar file is refused. (Own.)
use Rattle.std.specs.Prelude.{◌≡◌, ℕ, List, [], ◌∷◌, ◌++◌, Option, Some, None, option_and_then, codes, decimal}
use Rattle.std.specs.Prelude.{string_bytes, IsUtf8, Bool, true, false, is_some}
use Rattle.serde_json.specs.Data.{Num, unsigned, negative, float, Data}
use Rattle.serde_json.specs.Find.{get, at, as_str, as_number, as_array, as_object}
use Rattle.serde_json.specs.Read.{read}
use Rattle.spv_grammar.specs.declared.steps.Step.{Step}
use Rattle.spv_grammar.specs.declared.steps.Step.TheVariants.{Stay, Key, Item}
use Rattle.spv_grammar.specs.declared.place.GrammarFault.{GrammarFault}
use Rattle.spv_grammar.specs.declared.error.GrammarError.{GrammarError}
use Rattle.spv_grammar.specs.declared.error.GrammarError.TheVariants.{J1, J2, J3, J4, J5, J6, J7, J8}
use Rattle.spv_grammar.specs.Answer.{tree_breaks, text_breaks}

-- where a step leads from a value: to the value at a key, or to an item of an array
abbrev pub step_into : Step → Data → Option Data
step_into Stay d = Some d
step_into (Key key) d = get key.now d
step_into (Item place) d = at place d

-- where steps lead; nowhere where one has nothing to lead to
abbrev pub leads_to : List Step → Data → Option Data
leads_to [] d = Some d
leads_to (s ∷ ss) d = option_and_then (leads_to ss) (step_into s d)

-- a path with one more key, with a dot before it unless it is the first
abbrev pub with_key : List ℕ → List ℕ → List ℕ
with_key [] key = key
with_key (c ∷ cs) key = (c ∷ cs) ++ (codes "." ++ key)

abbrev pub with_step : List ℕ → Step → List ℕ
with_step path Stay = path
with_step path (Key key) = with_key path key.now
with_step path (Item place) = path ++ (codes "[" ++ (decimal place ++ codes "]"))

-- steps as a path, as `instructions[12].operands[0].kind`, after what stands before them
abbrev pub path_of : List ℕ → List Step → List ℕ
path_of path [] = path
path_of path (s ∷ ss) = path_of (with_step path s) ss

-- a value in a few words: a text in quotes, as it is, and a whole number from 0 in digits
abbrev pub number_shown : Num → List ℕ
number_shown (unsigned n) = decimal n
number_shown (negative z) = codes "a number that is no whole one from 0"
number_shown (float x) = codes "a number that is no whole one from 0"

abbrev pub sort_shown : Bool → Bool → List ℕ
sort_shown true is_object = codes "an array"
sort_shown false true = codes "an object"
sort_shown false false = codes "null, true or false"

abbrev pub shown_by : Option (List ℕ) → Option Num → Data → List ℕ
shown_by (Some s) n d = codes "\"" ++ (s ++ codes "\"")
shown_by None (Some n) d = number_shown n
shown_by None None d = sort_shown (is_some (as_array d)) (is_some (as_object d))

abbrev pub value_shown : Data → List ℕ
value_shown d = shown_by (as_str d) (as_number d) d

abbrev pub found_shown : Option Data → List ℕ
found_shown None = codes "nothing"
found_shown (Some d) = value_shown d

-- A path in a tree, and what stands there.
pub record IsPlaced (d : Data) (path found : List ℕ) : Type 0 where
  pub steps : List Step
  pub path_is : path ≡ path_of [] steps
  pub found_is : found ≡ found_shown (leads_to steps d)

-- A fault of a text: the code is the one that the text breaks, and where it is not J1 the path leads in its tree to
-- what was found.
abbrev pub PlacedBy : GrammarError → List ℕ → List ℕ → List ℕ → Type 0
PlacedBy J1 text path found = Unit {0}
PlacedBy e text path found = (d : Data) × (read text ≡ Some d) × IsPlaced d path found

pub record IsFault (text : List ℕ) (f : GrammarFault) : Type 0 where
  pub breaks : text_breaks text f.code
  pub placed : PlacedBy f.code text (string_bytes f.path) (string_bytes f.found)

-- A text that breaks no code.
pub record BreaksNothing (text : List ℕ) : Type 0 where
  pub tree : Data
  pub utf8 : IsUtf8 text
  pub is_tree : read text ≡ Some tree
  pub unbroken : tree_breaks tree ≡ None

-- The answer of what a text is refused for.
abbrev pub Tells : List ℕ → Option GrammarFault → Type 0
Tells text None = BreaksNothing text
Tells text (Some f) = IsFault text f
