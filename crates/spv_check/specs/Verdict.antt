-- The verdict line (own): which one a stream of bytes has.
use Rattle.std.specs.Prelude.{◌+◌, ◌++◌, ℕ, List, [], ◌∷◌, drop, slice_index, codes, decimal}
use Rattle.spv_words.specs.Header.{IsFirstBroken, IsModule}
use Rattle.spv_words.specs.declared.words.Order.{Order}
use Rattle.spv_words.specs.declared.words.WordError.{WordError}
use Rattle.spv_table.specs.Table.{Table}
use Rattle.spv_module.specs.Operand.{PlainInst}
use Rattle.spv_module.specs.Malformed.{IsMalformedAt}
use Rattle.spv_module.specs.declared.fault.Rule.{Rule}
use Rattle.spv_extended.specs.declared.reach.Reach.{Reach}
use Rattle.spv_layout.specs.Place.{first_word_of}
use Rattle.spv_rules.specs.Rules.{code_text, rule_text}
use Rattle.spv_check.specs.Broken.{IsFirstOfAll}
use Rattle.spv_check.specs.Reading.{IsReading}
use Rattle.spv_check.specs.Valid.{IsValid}

-- the lines, each with a line feed at its end: `valid`; as `fault W4`; and as `fault I7 inst 0 word 9`, where
-- instructions and words are counted from 0, words in the whole module [own]
abbrev pub line_end : List ℕ
line_end = 10 ∷ []

abbrev pub valid_line : List ℕ
valid_line = codes "valid" ++ line_end

abbrev pub refused_line : WordError → List ℕ
refused_line code = codes "fault " ++ code_text code ++ line_end

abbrev pub fault_line : Rule → ℕ → ℕ → List ℕ
fault_line broken inst at =
    codes "fault " ++ rule_text broken ++ codes " inst " ++ decimal inst ++ codes " word " ++ decimal at ++ line_end

-- The line is the verdict on all of these bytes, under the grammar table, as far as they are looked at. [own]
pub data IsVerdict (G : Table) (reach : Reach) (bytes : List ℕ) : List ℕ → Type 0 where
  -- they are no words of a module with a good header: the first of W2 to W8 that they break
  refused : (code : WordError) → IsFirstBroken code bytes → IsVerdict G reach bytes (refused_line code)
  -- they are a valid module
  valid : IsValid G reach bytes → IsVerdict G reach bytes valid_line
  -- they are words of which those from word 5 on spell a list of instructions, and this rule is the first that it
  -- breaks, as far as it is looked at, under the bound that word 3 is, at the instruction of that number
  unsound : (words : List ℕ) (order : Order) (is : List PlainInst) (broken : Rule) (inst : ℕ)
      → IsModule order bytes words → IsReading G reach is (drop 5 words)
      → IsFirstOfAll G reach (slice_index words 3) is broken inst
      → IsVerdict G reach bytes (fault_line broken inst (first_word_of is inst))
  -- they are words of which those from word 5 on are dead at an instruction, told by its rule, its number and a word
  dead : (words : List ℕ) (order : Order) (broken : Rule) (inst at : ℕ) → IsModule order bytes words
      → IsMalformedAt G (drop 5 words) broken inst at → IsVerdict G reach bytes (fault_line broken inst (5 + at))
