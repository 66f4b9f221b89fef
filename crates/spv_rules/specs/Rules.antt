-- Codes: their names, as text, and what they say. (Own.)
use Rattle.std.specs.Prelude.{◌≡◌, ◌+◌, ◌-◌, ◌*◌, ◌/◌, ◌%◌, ◌++◌, ℕ, nat_eq, nat_le, nat_lt, List, [], ◌∷◌, length, map}
use Rattle.std.specs.Prelude.{take}
use Rattle.std.specs.Prelude.{codes, get_or, if◌then◌else◌}
use Rattle.std.specs.Char.{to_ascii_lowercase}
use Rattle.std.specs.List.{position_or_len}
use denote.Enum.Declared.{tag_of}
use Rattle.spv_module.specs.declared.fault.Rule.{Rule as AnyRule}
use Rattle.spv_module.specs.declared.fault.Rule.TheVariants as rule
use Rattle.spv_module.specs.contracts.fault.Rule.{the_type}
use Rattle.spv_words.specs.declared.words.WordError.{WordError}
use Rattle.spv_words.specs.contracts.words.WordError as word
use Rattle.spv_rules.specs.declared.rules.Code.{Code}
use Rattle.spv_rules.specs.declared.rules.Code.TheVariants.{Word, Rule}
use Rattle.spv_rules.specs.Table.{Row, rows}

-- the code of a rule on words, as text: `W` and a digit, for the first variant of `WordError` the digit 1 [own]
abbrev pub code_text : WordError → List ℕ
code_text w = codes "W" ++ ((49 + tag_of word.the_type w) ∷ [])

-- The rules whose code begins a run of codes: of each its letter and its number. The rules that come after it, up to
-- the next of these, have the same letter and the numbers that follow. From the last of them to the first. [own]
abbrev pub beginnings : List (AnyRule × List ℕ × ℕ)
beginnings = (rule.O1, codes "O", 1) ∷ (rule.Y9, codes "Y", 9) ∷ (rule.G1, codes "G", 1) ∷ (rule.A1, codes "A", 1)
    ∷ (rule.F1, codes "F", 1) ∷ (rule.Y2, codes "Y", 2) ∷ (rule.E1, codes "E", 1) ∷ (rule.M1, codes "M", 1) ∷ (rule.C1, codes "C", 1)
    ∷ (rule.Y1, codes "Y", 1) ∷ (rule.D1, codes "D", 1) ∷ (rule.L1, codes "L", 1) ∷ (rule.P1, codes "P", 1)
    ∷ (rule.I1, codes "I", 1) ∷ []

-- the place of a rule among the variants of `Rule`, from 0
abbrev pub place_of_rule : AnyRule → ℕ
place_of_rule r = tag_of the_type r

-- the digits of a number below 100: a digit n is the octet 48 + n
abbrev pub two_digits : ℕ → List ℕ
two_digits n = if nat_lt n 10 then (48 + n) ∷ [] else (48 + n / 10) ∷ (48 + n % 10) ∷ []

-- the code of a rule by the first of these beginnings that does not come after it
abbrev pub text_by : List (AnyRule × List ℕ × ℕ) → AnyRule → List ℕ
text_by [] r = []
text_by (begin ∷ before) r =
    if nat_le (place_of_rule begin.0) (place_of_rule r)
    then begin.1 ++ two_digits (begin.2 + (place_of_rule r - place_of_rule begin.0))
    else text_by before r

-- the code of any other rule, as text: its letter and its number [own]
abbrev pub rule_text : AnyRule → List ℕ
rule_text r = text_by beginnings r

-- the name of a code, as `W3` or `A1`
abbrev pub name_of : Code → List ℕ
name_of (Word code) = code_text code
name_of (Rule r) = rule_text r

-- a text is a name, in capital or small letters
abbrev pub IsNamed : List ℕ → List ℕ → Type 0
IsNamed text name = map to_ascii_lowercase text ≡ map to_ascii_lowercase name

-- the letters of names, in the order in which C numbers them; S is that of texts
abbrev pub letters : List ℕ
letters = codes "WIPLDYCMEFAGSO"

-- a number that begins with the digits of n, and goes on with these
abbrev pub value_from : ℕ → List ℕ → ℕ
value_from n [] = n
value_from n (digit ∷ digits) = value_from (10 * n + (digit - 48)) digits

-- the number of a name in C: a hundred for each letter before its own, and then the number after the letter
abbrev pub number_in : List ℕ → ℕ
number_in [] = 0
number_in (letter ∷ digits) = 100 * position_or_len (nat_eq letter) letters + value_from 0 digits

-- the number of a code in C: I7 is 107, and W2 is 2
abbrev pub number_of : Code → ℕ
number_of code = number_in (name_of code)

-- the place of a code in the table: the codes on words stand first
abbrev pub place_of : Code → ℕ
place_of (Word code) = tag_of word.the_type code
place_of (Rule r) = 9 + place_of_rule r

-- all but the last octet
abbrev pub without_last : List ℕ → List ℕ
without_last text = take (length text - 1) text

-- what a code says, in a sentence: that of its row in the table
abbrev pub sentence_of : Code → List ℕ
sentence_of code = get_or (map (λ (row : Row). without_last row.4.now) rows) (place_of code) []

-- the sources of that sentence, with which it ends in brackets
abbrev pub section_of : Code → List ℕ
section_of code = get_or (map (λ (row : Row). row.5.now) rows) (place_of code) []

-- where a code is broken, a line for each place
abbrev pub meaning_of : Code → List ℕ
meaning_of code = get_or (map (λ (row : Row). row.6.now) rows) (place_of code) []
