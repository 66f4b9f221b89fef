use Rattle.std.proofs.Common.{◌≡◌, ◌≤◌, ◌<◌, ◌++◌, ◌%◌, ◌/◌, ◌+◌, ◌*◌, ◌^◌, ap, refl, arith, ℕ, List, [], ◌∷◌, length, Result, Ok, Err, is_ok, OnErr, OnOk, if◌then◌else◌}
use Rattle.std.specs.List.{All}
use Rattle.spv_words.proofs.Groups.{length-words_of}
use Rattle.spv_words.proofs.Standing.{words-stand}
use Rattle.spv_words.specs.declared.words.Order.TheVariants.{Little}
use Rattle.spv_words.specs.Words.{words_of}
use Rattle.spv_words.specs.Header.{IsHeader, IsImage, greatest_length}

-- the words of bytes joined
pub words_of-append : (x y : List ℕ) → length x % 4 ≡ 0 → words_of Little (x ++ y) ≡ words_of Little x ++ words_of Little y
words_of-append [] y h = refl
words_of-append (a ∷ []) y h = absurd (omega arith)
words_of-append (a ∷ b ∷ []) y h = absurd (omega arith)
words_of-append (a ∷ b ∷ c ∷ []) y h = absurd (omega arith)
words_of-append (a ∷ b ∷ c ∷ d ∷ x) y h = ap (λ ws. (a + 256 * b + 65536 * c + 16777216 * d) ∷ ws) (words_of-append x y (omega arith))

-- the bytes of a word are a word
one_word : (w : ℕ) (ys rest : List ℕ) → w < 2 ^ 32 → ys ≡ w % 256 ∷ w / 256 % 256 ∷ w / 65536 % 256 ∷ w / 16777216 % 256 ∷ rest → length rest ≡ 0 → words_of Little ys ≡ w ∷ []
one_word w ys (x ∷ rest) h e none = absurd (omega arith)
one_word w ys [] h e none =
    let f : (w % 256) + 256 * (w / 256 % 256) + 65536 * (w / 65536 % 256) + 16777216 * (w / 16777216 % 256) ≡ w = omega arith in
    rw e (ap (λ v. v ∷ []) f)

pub pushed : {T E : Type 0} (r : Result T E) (old new ys rest words : List ℕ) (w : ℕ) → w < 2 ^ 32 → length old % 4 ≡ 0 → words_of Little old ≡ words
    → ys ≡ w % 256 ∷ w / 256 % 256 ∷ w / 65536 % 256 ∷ w / 16777216 % 256 ∷ rest → length rest ≡ 0
    → new ≡ (if is_ok r then old ++ ys else old) → OnOk r (words_of Little new ≡ words ++ w ∷ [])
pushed (Ok x) old new ys rest words w h g v e none i = rw (i, words_of-append old ys g, one_word w ys rest h e none, v) refl
pushed (Err x) old new ys rest words w h g v e none i = tt

pub unpushed : {T E : Type 0} (r : Result T E) (old new ys words : List ℕ) → words_of Little old ≡ words → new ≡ (if is_ok r then old ++ ys else old) → OnErr r (words_of Little new ≡ words)
unpushed (Ok x) old new ys words v i = tt
unpushed (Err x) old new ys words v i = rw i v

-- the bytes of a header and of no more words than a module has are an image's
pub finished : (bs words : List ℕ) → All (λ b. b < 256) bs → length bs % 4 ≡ 0 → words_of Little bs ≡ words → IsHeader words → length words ≤ greatest_length → IsImage bs
finished bs words o g v h l =
    let n = length-words_of Little bs in
    let m : length (words_of Little bs) ≡ length words = ap length v in
    record { stands = words-stand Little bs o g; header = rw v h; size = omega arith }
