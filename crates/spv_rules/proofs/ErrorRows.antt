-- What the rows of the codes of errors have.
use Rattle.std.proofs.Common.{◌≡◌, ◌∙◌, ◌++◌, ◌<◌, ℕ, List, [], codes, Some, refl, sym, ap, option_map, length, map, get_or, arith}
use Rattle.std.specs.Prelude.{slice_get}
use denote.Enum.Declared.{variants}
use denote.Enum.Enum.{tag_below}
use Rattle.std.proofs.lemmas.Option.{get_or_from_slice_get, slice_get-get_or, slice_get-map}
use Rattle.spv_rules.specs.Errors.{ErrorRow, error_codes, error_name, error_section, error_sentence, place_of_error}
use Rattle.spv_rules.specs.contracts.errors.ErrorCode.{the_type}
use Rattle.spv_rules.specs.declared.errors.ErrorCode.{ErrorCode}
use Rattle.spv_rules.specs.declared.errors.ErrorCode.TheVariants as error
use Rattle.spv_rules.specs.declared.errors.TheConstants.{ERROR_ROWS}
use Rattle.spv_rules.specs.inner.Held.{HeldError, plain_error}

-- there is a row for each variant
each : length (variants the_type) ≡ length error_codes
each = refl

pub error_below : (code : ErrorCode) → place_of_error code < length error_codes
error_below code = let l = tag_below (variants the_type) (the_type.to code) in omega (arith, l, each)

-- the row that the code has at hand
pub held_at : (rs : List HeldError) (n : ℕ) (d : HeldError) → map plain_error rs ≡ ERROR_ROWS.now → n < length rs
    → slice_get ERROR_ROWS.now n ≡ Some (plain_error (get_or rs n d))
held_at rs n d e l = ap (λ zs. slice_get zs n) (sym e) ∙ slice_get-map plain_error rs n ∙ ap (option_map plain_error) (slice_get-get_or rs n d l)

pub code_at_row : (n : ℕ) (row : ErrorRow) → slice_get ERROR_ROWS.now n ≡ Some row → slice_get error_codes n ≡ Some row.0
code_at_row n row h = slice_get-map (λ (r : ErrorRow). r.0) ERROR_ROWS.now n ∙ ap (option_map (λ (r : ErrorRow). r.0)) h

-- a text of a row
pub told_by : (told : ErrorRow → List ℕ) (code : ErrorCode) (row : ErrorRow) → slice_get ERROR_ROWS.now (place_of_error code) ≡ Some row
    → told row ≡ get_or (map told ERROR_ROWS.now) (place_of_error code) []
told_by told code row h =
    sym (get_or_from_slice_get (map told ERROR_ROWS.now) (place_of_error code) (told row) [] (slice_get-map told ERROR_ROWS.now (place_of_error code) ∙ ap (option_map told) h))

named : (code : ErrorCode) → get_or (map (λ (row : ErrorRow). row.1.now) ERROR_ROWS.now) (place_of_error code) [] ≡ error_name code
named error.J1 = refl
named error.J2 = refl
named error.J3 = refl
named error.J4 = refl
named error.J5 = refl
named error.J6 = refl
named error.J7 = refl
named error.J8 = refl
named error.S1 = refl
named error.S2 = refl
named error.S3 = refl
named error.S4 = refl
named error.S5 = refl
named error.S6 = refl
named error.X1 = refl
named error.X2 = refl
named error.N1 = refl
named error.N2 = refl
named error.N3 = refl

pub error_name_by : (code : ErrorCode) (row : ErrorRow) → slice_get ERROR_ROWS.now (place_of_error code) ≡ Some row → row.1.now ≡ error_name code
error_name_by code row h = told_by (λ (r : ErrorRow). r.1.now) code row h ∙ named code

-- sentences end with their sources
pub error_sources : (code : ErrorCode) → (told : List ℕ) × (error_sentence code ≡ told ++ codes " [" ++ error_section code ++ codes "]")
error_sources error.J1 = (codes "A grammar file is one JSON value, at most 127 levels deep.", refl)
error_sources error.J2 = (codes "Required members are present, and all that is read has the right JSON type.", refl)
error_sources error.J3 = (codes "Each opcode and each value is in range and well formed.", refl)
error_sources error.J4 = (codes "Each kind that is named is defined in the file.", refl)
error_sources error.J5 = (codes "Each category and each quantifier is a known one.", refl)
error_sources error.J6 = (codes "An instruction has each result kind at most once, without a quantifier; parameters and bases have none.", refl)
error_sources error.J7 = (codes "A Composite has bases, each of category Id or Literal.", refl)
error_sources error.J8 = (codes "Memory suffices for the table.", refl)
error_sources error.S1 = (codes "A text begins with the five lines of its header.", refl)
error_sources error.S2 = (codes "A line has the name of an instruction in the right place.", refl)
error_sources error.S3 = (codes "A line has the operands and the result of its instruction, each in the right form.", refl)
error_sources error.S4 = (codes "A number fits its place.", refl)
error_sources error.S5 = (codes "An instruction has at most 65,535 words, and a module at most 16,777,216 bytes.", refl)
error_sources error.S6 = (codes "Memory suffices for the module of a text.", refl)
error_sources error.X1 = (codes "The function that is run is that of an entry point.", refl)
error_sources error.X2 = (codes "The requested function is in the module.", refl)
error_sources error.N1 = (codes "The header of a module that is encoded satisfies W5 to W7.", refl)
error_sources error.N2 = (codes "The grammar has the instruction, with these operands.", refl)
error_sources error.N3 = (codes "An instruction that is encoded has at most 65,535 words, and a module at most 16,777,216 bytes.", refl)
