-- All codes that a command prints, and the lines that tell them. (Own.)
use Rattle.std.specs.Prelude.{◌++◌, ◌∷◌, ℕ, List, [], Option, Some, None, codes, flat_map, map, ◌==◌, if◌then◌else◌}
use Rattle.spv_rules.specs.declared.errors.AnyCode.{AnyCode}
use Rattle.spv_rules.specs.declared.errors.AnyCode.TheVariants.{Verdict, Error}
use Rattle.spv_rules.specs.Errors.{any_meaning, any_name, any_sentence, error_codes}
use Rattle.spv_rules.specs.Table.{Row, rows}

-- in the order of the tables: those of verdicts, and then those of errors
unfoldable pub all_codes : List AnyCode
all_codes = map (λ (row : Row). Verdict row.0) rows ++ map Error error_codes

-- the line of a code: its name and what it says
abbrev pub code_line : AnyCode → List ℕ
code_line code = any_name code ++ codes ": " ++ any_sentence code ++ codes "\n"

-- a text as lines, each of its own after four spaces: 10 ends a line
abbrev pub indented_byte : ℕ → List ℕ
indented_byte b = if b == 10 then codes "\n    " else b ∷ []

abbrev pub indented : List ℕ → List ℕ
indented text = codes "    " ++ flat_map indented_byte text ++ codes "\n"

-- what is told of all codes, or of one: a line for each; and of one, where it is broken
abbrev pub told_text : Option AnyCode → List ℕ
told_text None = flat_map code_line all_codes
told_text (Some code) = code_line code ++ indented (any_meaning code)
