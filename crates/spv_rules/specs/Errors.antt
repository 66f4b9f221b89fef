-- Codes of errors: their names, as text, and what they say. (Own.)
use Rattle.std.specs.Prelude.{ℕ, List, [], codes, get_or, map}
use denote.Enum.Declared.{tag_of}
use Rattle.spv_rules.specs.Rules.{meaning_of, name_of, section_of, sentence_of}
use Rattle.spv_rules.specs.Table.{Text}
use Rattle.spv_rules.specs.declared.errors.AnyCode.{AnyCode}
use Rattle.spv_rules.specs.declared.errors.AnyCode.TheVariants.{Verdict, Error}
use Rattle.spv_rules.specs.declared.errors.ErrorCode.{ErrorCode}
use Rattle.spv_rules.specs.declared.errors.ErrorCode.TheVariants as error
use Rattle.spv_rules.specs.declared.errors.TheConstants.{ERROR_ROWS}
use Rattle.spv_rules.specs.contracts.errors.ErrorCode.{the_type}

-- a row: the code, its name, its sentence, the sources that the sentence ends with, and when it is told
abbrev pub ErrorRow : Type 0
ErrorRow = ErrorCode × Text × Text × Text × Text

-- the codes, in the order of the table
abbrev pub error_codes : List ErrorCode
error_codes = map (λ (row : ErrorRow). row.0) ERROR_ROWS.now

-- the place of a code among them, from 0
abbrev pub place_of_error : ErrorCode → ℕ
place_of_error code = tag_of the_type code

-- what a code says, in a sentence: that of its row in the table; its sources; and when it is told
abbrev pub error_sentence : ErrorCode → List ℕ
error_sentence code = get_or (map (λ (row : ErrorRow). row.2.now) ERROR_ROWS.now) (place_of_error code) []

abbrev pub error_section : ErrorCode → List ℕ
error_section code = get_or (map (λ (row : ErrorRow). row.3.now) ERROR_ROWS.now) (place_of_error code) []

abbrev pub error_meaning : ErrorCode → List ℕ
error_meaning code = get_or (map (λ (row : ErrorRow). row.4.now) ERROR_ROWS.now) (place_of_error code) []

-- the name of a code of an error
abbrev pub error_name : ErrorCode → List ℕ
error_name error.J1 = codes "J1"
error_name error.J2 = codes "J2"
error_name error.J3 = codes "J3"
error_name error.J4 = codes "J4"
error_name error.J5 = codes "J5"
error_name error.J6 = codes "J6"
error_name error.J7 = codes "J7"
error_name error.J8 = codes "J8"
error_name error.S1 = codes "S1"
error_name error.S2 = codes "S2"
error_name error.S3 = codes "S3"
error_name error.S4 = codes "S4"
error_name error.S5 = codes "S5"
error_name error.S6 = codes "S6"
error_name error.X1 = codes "X1"
error_name error.X2 = codes "X2"
error_name error.N1 = codes "N1"
error_name error.N2 = codes "N2"
error_name error.N3 = codes "N3"

-- the name of any code
abbrev pub any_name : AnyCode → List ℕ
any_name (Verdict code) = name_of code
any_name (Error code) = error_name code

-- what any code says, in a sentence; its sources; and where it is broken, or when it is told
abbrev pub any_sentence : AnyCode → List ℕ
any_sentence (Verdict code) = sentence_of code
any_sentence (Error code) = error_sentence code

abbrev pub any_section : AnyCode → List ℕ
any_section (Verdict code) = section_of code
any_section (Error code) = error_section code

abbrev pub any_meaning : AnyCode → List ℕ
any_meaning (Verdict code) = meaning_of code
any_meaning (Error code) = error_meaning code
