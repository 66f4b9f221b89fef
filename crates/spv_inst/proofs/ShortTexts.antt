-- A text of ASCII characters that takes all words.
use Rattle.std.proofs.Common.{◌≡◌, ◌≢◌, ◌∙◌, ◌<◌, ◌+◌, ◌-◌, ◌*◌, ◌/◌, ◌%◌, ℕ, List, [], ◌∷◌, length, take, drop}
use Rattle.std.proofs.Common.{IsAscii, IsUtf8, drop-drop, take_all, ap, subst, arith}
use Rattle.std.specs.List.{AllByRecursion}
use Rattle.std.proofs.lemmas.List.{drop_more, length-drop}
use Rattle.std.proofs.lemmas.Str.{IsUtf8-from_ascii}
use Rattle.std.proofs.lemmas.Str.Ascii.{IsAscii-cons, IsAscii-nil}
use Rattle.spv_words.specs.declared.words.Order.TheVariants.{Little}
use Rattle.spv_words.specs.Words.{words_of}
use Rattle.spv_module.specs.Operand.{Text}
use Rattle.spv_module.specs.Shape.{AsText}
use Rattle.spv_module.specs.Spelling.{AreZeros, Takes}
use Rattle.spv_inst.proofs.TextOctets.{all_take, length-words}
use Rattle.spv_inst.proofs.TextPlaces.{IsFirstZero, padding_at, takes}

-- each octet is that of an ASCII character, and none is zero
abbrev pub AreShort : List ℕ → Type 0
AreShort bs = AllByRecursion (λ b. (0 < b) × (b < 128)) bs

ascii : (bs : List ℕ) → AreShort bs → IsAscii bs
ascii [] h = IsAscii-nil
ascii (b ∷ bs) h = IsAscii-cons b bs h.0.1 (ascii bs h.1)

pub short_utf8 : (bs : List ℕ) → AreShort bs → IsUtf8 bs
short_utf8 bs h = IsUtf8-from_ascii bs (ascii bs h)

no_zero : (bs : List ℕ) → AreShort bs → AllByRecursion (λ b. b ≢ 0) bs
no_zero [] h = tt
no_zero (b ∷ bs) h = let l = h.0.0 in ((λ e. absurd (omega arith)), no_zero bs h.1)

-- the last four octets, as the code lends them
abbrev pub last_four : List ℕ → List ℕ
last_four bs = take (length bs - (length bs - 4)) (drop (length bs - 4) bs)

-- zeros from a place on in the last four octets
zeros_from : (bs : List ℕ) (n : ℕ) → AreZeros (drop n (last_four bs)) → AreZeros (drop (length bs - 4 + n) bs)
zeros_from bs n h =
    let a : last_four bs ≡ drop (length bs - 4) bs =
    take_all (length bs - (length bs - 4)) (drop (length bs - 4) bs) (omega (arith, length-drop (length bs - 4) bs)) in
    let e : drop n (drop (length bs - 4) bs) ≡ drop (length bs - 4 + n) bs = drop-drop n (length bs - 4) bs in
    subst AreZeros (ap (λ xs. drop n xs) a ∙ e) h

first_zero : (bs : List ℕ) (m : ℕ) → m < length bs → AreZeros (drop m bs) → AreShort (take m bs) → IsFirstZero bs m
first_zero bs m l z s =
    let y = rw (drop_more bs m 0 l) at z in
    record { within = l; at = y.0; before = no_zero (take m bs) s }

padded : (bs : List ℕ) (m : ℕ) → m < length bs → AreZeros (drop m bs) → AreZeros (padding_at bs m)
padded bs m l z =
    let y = rw (drop_more bs m 0 l) at z in
    all_take (λ b. b ≡ 0) ((m / 4 * 4 + 4) - (m + 1)) (drop (m + 1) bs) y.1

pub short_takes : (k : ℕ) (bs : List ℕ) (n : ℕ) → length bs % 4 ≡ 0 → AllByRecursion (λ b. b < 256) bs → 0 < length bs
    → n < 4
    → AreZeros (drop n (last_four bs)) → AreShort (take (length bs - 4 + n) bs)
    → Takes k AsText (Text (take (length bs - 4 + n) bs)) (words_of Little bs) []
short_takes k bs n whole below some l z s =
    let m = length bs - 4 + n in
    let within : m < length bs = omega arith in
    let y = zeros_from bs n z in
    let t = takes k bs m whole below (first_zero bs m within y s) (padded bs m within y) (short_utf8 (take m bs) s) in
    let all : take (m / 4 + 1) (words_of Little bs) ≡ words_of Little bs = take_all (m / 4 + 1) (words_of Little bs)
    (omega (arith, length-words bs)) in
    subst (λ ws. Takes k AsText (Text (take m bs)) ws []) all t
