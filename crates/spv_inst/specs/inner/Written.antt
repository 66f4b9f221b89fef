-- The words of operands and of a header, and whether an operand fits a shape. (For the code alone.)
use Rattle.std.specs.Prelude.{◌<◌, ◌+◌, ◌*◌, ℕ, List, [], ◌∷◌}
use Rattle.std.specs.Prelude.{Option, Some, None, Bool, true, false, not, ◌&&◌, nat_eq, nat_le, is_some}
use Rattle.std.specs.Prelude.{if◌then◌else◌, IsUtf8}
use Rattle.std.specs.List.{list_any, AllByRecursion}
use Rattle.spv_words.specs.declared.words.Header.{Header}
use Rattle.spv_words.specs.Header.{magic_number}
use Rattle.spv_module.specs.Operand.{Plain, OfType, Result, Id, Word, Number, Text, Value, Mask, Argument, Mention}
use Rattle.spv_module.specs.Shape.{Shape, AsType, AsResult, AsId, AsWord, AsNumber, AsText, AsValue, AsMask}
use Rattle.spv_module.specs.Spelling.{parameters_of, mask_parameters}

-- the words of a text, a zero octet and up to three more added
abbrev pub text_words : List ℕ → List ℕ
text_words (a ∷ b ∷ c ∷ d ∷ t) = (a + 256 * b + 65536 * c + 16777216 * d) ∷ text_words t
text_words (a ∷ b ∷ c ∷ []) = (a + 256 * b + 65536 * c) ∷ []
text_words (a ∷ b ∷ []) = (a + 256 * b) ∷ []
text_words (a ∷ []) = a ∷ []
text_words [] = 0 ∷ []

-- the words of an operand, wherever it fits
abbrev pub operand_words : Plain → List ℕ
operand_words (OfType x) = x ∷ []
operand_words (Result x) = x ∷ []
operand_words (Id x) = x ∷ []
operand_words (Word x) = x ∷ []
operand_words (Argument x) = x ∷ []
operand_words (Mention x) = x ∷ []
operand_words (Number low high words) = if nat_eq words 2 then low ∷ high ∷ [] else low ∷ []
operand_words (Text t) = text_words t
operand_words (Value k x) = x ∷ []
operand_words (Mask k x) = x ∷ []

-- is a number one of a width
abbrev pub fits_width : Option ℕ → ℕ → ℕ → Bool
fits_width None high words = false
fits_width (Some w) high words = if nat_le w 32 then nat_eq high 0 && nat_eq words 1 else nat_eq words 2

-- has a text no zero octet
abbrev pub is_without_zero : List ℕ → Bool
is_without_zero t = not (list_any (λ b. nat_eq b 0) t)

-- does an operand fit what a kind asks for
abbrev pub is_fit : ℕ → Shape → Plain → Bool
is_fit k AsType (OfType x) = true
is_fit k AsResult (Result x) = true
is_fit k AsId (Id x) = true
is_fit k AsWord (Word x) = true
is_fit k (AsNumber w) (Number low high words) = fits_width w high words
is_fit k AsText (Text t) = is_without_zero t
is_fit k (AsValue es) (Value j x) = nat_eq j k && is_some (parameters_of es x)
is_fit k (AsMask es) (Mask j x) = nat_eq j k && is_some (mask_parameters es x)
is_fit k _ _ = false

-- an operand's text is text
abbrev pub HasText : Plain → Type 0
HasText (Text t) = IsUtf8 t × AllByRecursion (λ b. b < 256) t
HasText _ = Unit {0}

-- the words of a header
abbrev pub header_words : Header → List ℕ
header_words h = magic_number ∷ h.version ∷ h.generator ∷ h.bound ∷ h.schema ∷ []
