-- The lines that say why a text fails, each `KEY: TEXT` and a line feed. (Own.)
use Rattle.std.specs.Prelude.{◌≡◌, ◌++◌, ◌-◌, ◌∷◌, ◌||◌, ℕ, List, [], Bool, true, false, codes, decimal, length}
use Rattle.std.specs.Prelude.{nat_eq, nat_le, nat_lt, option_map, unwrap_or, if◌then◌else◌}
use Rattle.spv_table.specs.Table.{Table, kind_of}
use Rattle.spv_lines.specs.declared.asm_error.AsmCode.{AsmCode}
use Rattle.spv_lines.specs.Line.{before_space}
use Rattle.spv_lines.specs.Plain.{plain_of}
use Rattle.spv_parser.specs.declared.text_reason.Wanted.{Wanted}
use Rattle.spv_parser.specs.declared.text_reason.Wanted.TheVariants as wanted
use Rattle.spv_parser.specs.Reason.{Reason, FailsFor, column_of}

-- does an octet begin a character: in UTF-8 the others are those from 128 to 191
abbrev pub is_begin : ℕ → Bool
is_begin b = nat_lt b 128 || nat_le 192 b

-- the first characters of a text, so many
abbrev pub first_of : ℕ → List ℕ → List ℕ
first_of n [] = []
first_of n (b ∷ t) =
    if is_begin b then (if nat_eq n 0 then [] else b ∷ first_of (n - 1) t) else b ∷ first_of n t

-- what stands for the characters that are left out of a text
abbrev pub rest_mark : List ℕ → List ℕ → List ℕ
rest_mark front t = if nat_lt (length front) (length t) then codes " .." else []

-- the first 200 characters of a text, and ` ..` where there are more; each control character as `\xNN`
abbrev pub shown : List ℕ → List ℕ
shown t = plain_of (first_of 200 t) ++ rest_mark (first_of 200 t) t

-- what the header's line of a number is
abbrev pub header_words : ℕ → List ℕ
header_words n =
    if nat_eq n 1 then codes "a line \"; SPIR-V\""
    else (if nat_eq n 2 then codes "a line \"; Version: 1.6\""
    else (if nat_eq n 3 then codes "a line \"; Generator: N\", N of 32 bits"
    else (if nat_eq n 4 then codes "a line \"; Bound: N\", N from 1 to 4194303"
    else codes "a line \"; Schema: 0\"")))

-- a number of one word or two
abbrev pub number_words : ℕ → Bool → List ℕ
number_words n true = if nat_eq n 2 then codes "0x and 16 hexadecimal digits" else codes "0x and 8 hexadecimal digits"
number_words n false = if nat_eq n 2 then codes "a number of 64 bits" else codes "a number of 32 bits"

-- the name of a kind, as a text is shown
abbrev pub kind_name : Table → ℕ → List ℕ
kind_name G k = shown (unwrap_or (option_map (λ s. s.kind.name) (kind_of G k)) [])

-- what is wanted, in words
abbrev pub wanted_text : Table → Wanted → List ℕ
wanted_text G (wanted.HeaderLine n) = header_words n
wanted_text G wanted.Equals = codes "= and the name of an instruction"
wanted_text G wanted.Name = codes "the name of an instruction"
wanted_text G wanted.Result = codes "a result id and ="
wanted_text G wanted.ResultId = codes "a result id, as %7"
wanted_text G wanted.NoResult = codes "no result id"
wanted_text G wanted.Id = codes "an id, as %7"
wanted_text G (wanted.Number n hex) = number_words n hex
wanted_text G wanted.KnownWidth = codes "a number of a type that the lines before declare"
wanted_text G wanted.Text = codes "a text in quotes"
wanted_text G (wanted.Value k) = codes "a value of " ++ kind_name G k
wanted_text G (wanted.Mask k) = codes "a mask of " ++ kind_name G k
wanted_text G (wanted.Nothing k) = codes "no text: the grammar has no form of " ++ kind_name G k
wanted_text G wanted.End = codes "the end of the line"
wanted_text G wanted.Shorter = codes "an instruction of at most 65535 words, in a module of at most 4194304"

-- the word at the front; of the header, the whole line
abbrev pub found_part : Wanted → List ℕ → List ℕ
found_part (wanted.HeaderLine n) t = shown t
found_part _ t = shown (before_space t)

-- what stands where something else is wanted
abbrev pub found_text : Wanted → List ℕ → List ℕ
found_text w t = if nat_eq (length t) 0 then codes "the end of the line"
    else (if nat_eq (length (before_space t)) 0 then codes "a space" else found_part w t)

-- a line
abbrev pub keyed : List ℕ → List ℕ → List ℕ
keyed key text = key ++ codes ": " ++ text ++ codes "\n"

-- the lines of a reason, with the sentence of its code
abbrev pub reason_text : Table → List ℕ → Reason → List ℕ
reason_text G sentence why =
    keyed (codes "rule") sentence
    ++ keyed (codes "at") (shown why.line)
    ++ keyed (codes "column") (decimal (column_of why))
    ++ keyed (codes "wanted") (wanted_text G why.stop.wanted)
    ++ keyed (codes "found") (found_text why.stop.wanted why.stop.rest)

-- Lines tell why a text fails with a code at a line.
pub record Tells (G : Table) (sentence t : List ℕ) (code : AsmCode) (n : ℕ) (lines : List ℕ) : Type 0 where
  pub reason : Reason
  pub fails : FailsFor G t code n reason
  pub text : lines ≡ reason_text G sentence reason
