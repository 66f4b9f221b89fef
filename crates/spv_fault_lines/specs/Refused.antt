-- What the lines tell of bytes that are no words of a module. (Own.)
use Rattle.std.specs.Prelude.{◌++◌, ℕ, List, [], ◌∷◌, Option, Some, None}
use Rattle.spv_words.specs.declared.words.WordError.{WordError}
use Rattle.spv_facts.specs.Refused.{found_text, help_text}
use Rattle.spv_facts.specs.declared.refused.Front.{Front}
use Rattle.spv_facts.specs.declared.key.Key.{Key}
use Rattle.spv_facts.specs.declared.key.Key.TheVariants as key
use Rattle.spv_fault_lines.specs.Lines.{keyed, name_part}

-- `found: 12 bytes`, as a line, where there is something to tell
abbrev pub piece_line : Key → Option (List ℕ) → List ℕ
piece_line k None = []
piece_line k (Some text) = keyed k (name_part text) ++ (10 ∷ [])

abbrev pub found_lines : WordError → Front → List ℕ
found_lines e f = piece_line key.Found (found_text e f) ++ piece_line key.Help (help_text e f)
