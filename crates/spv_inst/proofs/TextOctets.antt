-- The octets of the words that octets stand for, and words against octets.
use Rattle.std.proofs.Common.{◌≡◌, ◌<◌, ◌-◌, ◌*◌, ◌/◌, ◌%◌, ℕ, zero, suc, List, [], ◌∷◌, length, take, drop, get_or}
use Rattle.std.proofs.Common.{refl, ap, arith}
use Rattle.std.specs.List.{AllByRecursion}
use Rattle.spv_words.specs.declared.words.Order.TheVariants.{Little}
use Rattle.spv_words.specs.Words.{words_of, word_of}
use Rattle.spv_module.specs.Spelling.{octets_of}
use Rattle.spv_inst.specs.inner.Reading.{between}

-- what holds at each place holds of each element
pub each_all : (P : ℕ → Type 0) (xs : List ℕ) → ((k : ℕ) → k < length xs → P (get_or xs k 0)) → AllByRecursion P xs
each_all P [] h = tt
each_all P (x ∷ xs) h = (h 0 (omega arith), each_all P xs (λ k l. h (suc k) (omega arith)))

-- the first elements, of which it holds too
pub all_take : (P : ℕ → Type 0) (n : ℕ) (xs : List ℕ) → AllByRecursion P xs → AllByRecursion P (take n xs)
all_take P zero xs h = tt
all_take P (suc n) [] h = tt
all_take P (suc n) (x ∷ xs) h = (h.0, all_take P n xs h.1)

pub length-words : (bs : List ℕ) → length (words_of Little bs) ≡ length bs / 4
length-words [] = refl
length-words (a ∷ []) = refl
length-words (a ∷ b ∷ []) = refl
length-words (a ∷ b ∷ c ∷ []) = refl
length-words (a ∷ b ∷ c ∷ d ∷ rest) = omega (arith, length-words rest)

four_more : (n : ℕ) → 4 * suc n ≡ suc (suc (suc (suc (4 * n))))
four_more n = omega arith

-- the first words, of the first octets
pub take-words : (n : ℕ) (bs : List ℕ) → take n (words_of Little bs) ≡ words_of Little (take (4 * n) bs)
take-words zero bs = refl
take-words (suc n) [] = rw (four_more n) refl
take-words (suc n) (a ∷ []) = rw (four_more n) refl
take-words (suc n) (a ∷ b ∷ []) = rw (four_more n) refl
take-words (suc n) (a ∷ b ∷ c ∷ []) = rw (four_more n) refl
take-words (suc n) (a ∷ b ∷ c ∷ d ∷ rest) =
    rw (four_more n) (ap (λ ws. word_of Little a b c d ∷ ws) (take-words n rest))

-- the words behind the first, of the octets behind the first
pub drop-words : (n : ℕ) (bs : List ℕ) → drop n (words_of Little bs) ≡ words_of Little (drop (4 * n) bs)
drop-words zero bs = refl
drop-words (suc n) [] = rw (four_more n) refl
drop-words (suc n) (a ∷ []) = rw (four_more n) refl
drop-words (suc n) (a ∷ b ∷ []) = rw (four_more n) refl
drop-words (suc n) (a ∷ b ∷ c ∷ []) = rw (four_more n) refl
drop-words (suc n) (a ∷ b ∷ c ∷ d ∷ rest) = rw (four_more n) (drop-words n rest)

-- words between two places, of the octets between
pub between-words : (bs ws : List ℕ) (at end : ℕ) → words_of Little bs ≡ ws
    → between ws at end ≡ words_of Little (take (end * 4 - at * 4) (drop (at * 4) bs))
between-words bs ws at end e =
    let i : 4 * at ≡ at * 4 = omega arith in
    let j : 4 * (end - at) ≡ end * 4 - at * 4 = omega arith in
    rw (← e, drop-words at bs, take-words (end - at) (drop (4 * at) bs), i, j) refl

first_octet : (a b c d : ℕ) → a < 256 → b < 256 → c < 256 → d < 256 → word_of Little a b c d % 256 ≡ a
first_octet a b c d h i j k = omega arith

second_octet : (a b c d : ℕ) → a < 256 → b < 256 → c < 256 → d < 256 → word_of Little a b c d / 256 % 256 ≡ b
second_octet a b c d h i j k = omega arith

third_octet : (a b c d : ℕ) → a < 256 → b < 256 → c < 256 → d < 256 → word_of Little a b c d / 65536 % 256 ≡ c
third_octet a b c d h i j k = omega arith

fourth_octet : (a b c d : ℕ) → a < 256 → b < 256 → c < 256 → d < 256 → word_of Little a b c d / 16777216 % 256 ≡ d
fourth_octet a b c d h i j k = omega arith

-- the octets of the words that octets stand for
pub octets-words : (bs : List ℕ) → length bs % 4 ≡ 0 → AllByRecursion (λ b. b < 256) bs
    → octets_of (words_of Little bs) ≡ bs
octets-words [] h l = refl
octets-words (a ∷ []) h l = absurd (omega arith)
octets-words (a ∷ b ∷ []) h l = absurd (omega arith)
octets-words (a ∷ b ∷ c ∷ []) h l = absurd (omega arith)
octets-words (a ∷ b ∷ c ∷ d ∷ rest) h l =
    let p = first_octet a b c d l.0 l.1.0 l.1.1.0 l.1.1.1.0 in
    let q = second_octet a b c d l.0 l.1.0 l.1.1.0 l.1.1.1.0 in
    let r = third_octet a b c d l.0 l.1.0 l.1.1.0 l.1.1.1.0 in
    let s = fourth_octet a b c d l.0 l.1.0 l.1.1.0 l.1.1.1.0 in
    let m : length rest % 4 ≡ 0 = omega arith in
    let t = octets-words rest m l.1.1.1.1 in
    cc

-- words of octets have 32 bits
pub words-below : (bs : List ℕ) → AllByRecursion (λ b. b < 256) bs
    → AllByRecursion (λ w. w < 4294967296) (words_of Little bs)
words-below [] l = tt
words-below (a ∷ []) l = tt
words-below (a ∷ b ∷ []) l = tt
words-below (a ∷ b ∷ c ∷ []) l = tt
words-below (a ∷ b ∷ c ∷ d ∷ rest) l =
    let e = l.0 in
    let f = l.1.0 in
    let g = l.1.1.0 in
    let h = l.1.1.1.0 in
    (omega arith, words-below rest l.1.1.1.1)
