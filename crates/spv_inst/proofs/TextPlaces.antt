-- The text before the first zero octet.
use Rattle.std.proofs.Common.{◌≡◌, ◌≢◌, ◌++◌, ◌∙◌, ◌<◌, ◌≤◌, ◌+◌, ◌-◌, ◌*◌, ◌/◌, ◌%◌, ℕ, zero, suc, List, [], ◌∷◌}
use Rattle.std.proofs.Common.{length, take, drop, get_or, refl, sym, ap, subst, arith, take-add}
use Rattle.std.proofs.lemmas.Bool.{eq-eqb, eqb-true}
use Rattle.std.proofs.lemmas.List.{drop_more, get_or-take, length-take, length-take-le}
use Rattle.memchr.specs.Find.{NoneBefore, Nowhere, Passes, is_byte}
use Rattle.std.specs.Prelude.{IsUtf8}
use Rattle.std.specs.List.{AllByRecursion}
use Rattle.spv_words.specs.declared.words.Order.TheVariants.{Little}
use Rattle.spv_words.specs.Words.{words_of, word_of}
use Rattle.spv_module.specs.declared.fault.Rule.TheVariants.{I4, I8, I9, I10}
use Rattle.spv_module.specs.Operand.{Text}
use Rattle.spv_module.specs.Shape.{AsText}
use Rattle.spv_module.specs.Spelling.{octets_of, HoldsText, AreZeros, Takes}
use Rattle.spv_module.specs.Refusal.{ShapeRefuses}
use Rattle.spv_inst.proofs.TextOctets.{each_all, all_take, length-words, take-words, octets-words, words-below}

-- the first zero octet is at a place
pub record IsFirstZero (bs : List ℕ) (n : ℕ) : Type 0 where
  pub within : n < length bs
  pub at : get_or bs n 0 ≡ 0
  pub before : AllByRecursion (λ b. b ≢ 0) (take n bs)

-- a search that found it
pub found : (bs : List ℕ) (n : ℕ) → (NoneBefore (Passes (is_byte 0) bs) 0 (length bs) n) × (Passes (is_byte 0) bs n)
    → IsFirstZero bs n
found bs n h =
    let within = h.0.high in
    let long : length (take n bs) ≡ n = length-take-le n bs (omega arith) in
    record {
      within = within;
      at = eqb-true _ 0 h.1;
      before = each_all (λ b. b ≢ 0) (take n bs) (λ k l e.
          let m : k < n = omega arith in
          h.0.before k (omega arith) m (eq-eqb _ 0 (sym (get_or-take n bs k 0 m) ∙ e)));
    }

-- a search that found none
pub nowhere : (bs : List ℕ) → Nowhere (Passes (is_byte 0) bs) 0 (length bs) → AllByRecursion (λ b. b ≢ 0) bs
nowhere bs h = each_all (λ b. b ≢ 0) bs (λ k l e. h k (omega arith) l (eq-eqb _ 0 e))

-- the octets behind the zero octet, in the same word
abbrev pub padding_at : List ℕ → ℕ → List ℕ
padding_at bs n = take ((n / 4 * 4 + 4) - (n + 1)) (drop (n + 1) bs)

one_more : (p : ℕ) → 1 + p ≡ suc p
one_more p = omega arith

-- the octets up to a place after the zero octet
split_at_zero : (bs : List ℕ) (n p : ℕ) → n < length bs → get_or bs n 0 ≡ 0
    → take (n + (1 + p)) bs ≡ take n bs ++ (0 ∷ take p (drop (n + 1) bs))
split_at_zero bs n p l z = rw (take-add n (1 + p) bs, drop_more bs n 0 l, z, one_more p) refl

-- the words up to the zero octet hold the text
holds : (bs : List ℕ) (n : ℕ) → length bs % 4 ≡ 0 → AllByRecursion (λ b. b < 256) bs → IsFirstZero bs n
    → HoldsText (take (n / 4 + 1) (words_of Little bs)) (take n bs) (padding_at bs n)
holds bs n whole below z =
    let within = z.within in
    let m = n / 4 * 4 + 4 in
    let p = m - (n + 1) in
    let fits : m ≤ length bs = omega arith in
    let four : 4 * (n / 4 + 1) ≡ m = omega arith in
    let parts : m ≡ n + (1 + p) = omega arith in
    let words : take (n / 4 + 1) (words_of Little bs) ≡ words_of Little (take m bs) = take-words (n / 4 + 1) bs
    ∙ ap (λ k. words_of Little (take k bs)) four in
    let all : AllByRecursion (λ b. b < 256) (take m bs) = all_take (λ b. b < 256) m bs below in
    let long : length (take m bs) ≡ m = length-take-le m bs fits in
    let groups : length (take m bs) % 4 ≡ 0 = omega arith in
    let back : octets_of (words_of Little (take m bs)) ≡ take m bs = octets-words (take m bs) groups all in
    let split : take m bs ≡ take n bs ++ (0 ∷ padding_at bs n) = ap (λ k. take k bs) parts
    ∙ split_at_zero bs n p within z.at in
    record {
      words = rw words (words-below (take m bs) all);
      octets = ap octets_of words ∙ (back ∙ split);
      no_zero = z.before;
      short = omega (arith, length-take p (drop (n + 1) bs));
    }

-- the text is taken
pub takes : (k : ℕ) (bs : List ℕ) (n : ℕ) → length bs % 4 ≡ 0 → AllByRecursion (λ b. b < 256) bs → IsFirstZero bs n
    → AreZeros (padding_at bs n) → IsUtf8 (take n bs)
    → Takes k AsText (Text (take n bs)) (take (n / 4 + 1) (words_of Little bs)) []
takes k bs n whole below z zeros u =
    Takes.text (take n bs) (take (n / 4 + 1) (words_of Little bs)) (padding_at bs n) (holds bs n whole below z) zeros u

-- the words up to a place, and those behind
both : (n : ℕ) (ws : List ℕ) → take n ws ++ drop n ws ≡ ws
both zero ws = refl
both (suc n) [] = refl
both (suc n) (w ∷ ws) = ap (λ vs. w ∷ vs) (both n ws)

-- no word is left
pub no_words : (bs : List ℕ) → length bs ≡ 0 → ShapeRefuses AsText (words_of Little bs) I4 0
no_words [] e = ShapeRefuses.missing AsText tt
no_words (b ∷ bs) e = absurd (omega arith)

-- no zero octet
pub no_zero : (bs : List ℕ) → length bs % 4 ≡ 0 → AllByRecursion (λ b. b < 256) bs → 0 < length bs
    → AllByRecursion (λ b. b ≢ 0) bs → ShapeRefuses AsText (words_of Little bs) I8 0
no_zero [] whole below l z = absurd (omega arith)
no_zero (a ∷ []) whole below l z = absurd (omega arith)
no_zero (a ∷ b ∷ []) whole below l z = absurd (omega arith)
no_zero (a ∷ b ∷ c ∷ []) whole below l z = absurd (omega arith)
no_zero (a ∷ b ∷ c ∷ d ∷ rest) whole below l z =
    let P : List ℕ → Type 0 = λ bs. AllByRecursion (λ b. b ≢ 0) bs in
    ShapeRefuses.endless (word_of Little a b c d) (words_of Little rest)
    (subst P (sym (octets-words (a ∷ b ∷ c ∷ d ∷ rest) whole below)) z)

-- an octet other than zero after the zero octet
pub padded : (bs : List ℕ) (n : ℕ) → length bs % 4 ≡ 0 → AllByRecursion (λ b. b < 256) bs → IsFirstZero bs n
    → ¬ (AreZeros (padding_at bs n))
    → ShapeRefuses AsText (words_of Little bs) I9 (n / 4)
padded bs n whole below z other =
    let ws = take (n / 4 + 1) (words_of Little bs) in
    let us = drop (n / 4 + 1) (words_of Little bs) in
    let within = z.within in
    let fits : n / 4 + 1 ≤ length (words_of Little bs) = omega (arith, length-words bs) in
    let long : length ws ≡ n / 4 + 1 = length-take-le (n / 4 + 1) (words_of Little bs) fits in
    let P : List ℕ → Type 0 = λ vs. ShapeRefuses AsText vs I9 (n / 4) in
    subst P (both (n / 4 + 1) (words_of Little bs))
    (ShapeRefuses.padded (take n bs) ws (padding_at bs n) us (n / 4) (holds bs n whole below z) other long)

-- no UTF-8
pub no_text : (bs : List ℕ) (n : ℕ) → length bs % 4 ≡ 0 → AllByRecursion (λ b. b < 256) bs → IsFirstZero bs n
    → AreZeros (padding_at bs n) → ¬ (IsUtf8 (take n bs))
    → ShapeRefuses AsText (words_of Little bs) I10 0
no_text bs n whole below z zeros other =
    let ws = take (n / 4 + 1) (words_of Little bs) in
    let us = drop (n / 4 + 1) (words_of Little bs) in
    let P : List ℕ → Type 0 = λ vs. ShapeRefuses AsText vs I10 0 in
    subst P (both (n / 4 + 1) (words_of Little bs))
    (ShapeRefuses.no_text (take n bs) ws (padding_at bs n) us (holds bs n whole below z) zeros other)
