use Rattle.std.proofs.Common.{◌≡◌, ℕ, zero, suc, ◌+◌, ◌*◌, ◌/◌, ◌<◌, List, [], ◌∷◌, ◌++◌, length, slice_index, refl, arith, Option, Some, None}
use Rattle.std.proofs.lemmas.Grind.{common_steps}
use Rattle.std.specs.Io.KnownBytes.{Consumes}
use Rattle.spv_words.specs.declared.words.Order.{Order}
use Rattle.spv_words.specs.Words.{words_of, word_of}

pub length-words_of : (o : Order) (bytes : List ℕ) → length (words_of o bytes) ≡ length bytes / 4
length-words_of o [] = refl
length-words_of o (a ∷ []) = refl
length-words_of o (a ∷ b ∷ []) = refl
length-words_of o (a ∷ b ∷ c ∷ []) = refl
length-words_of o (a ∷ b ∷ c ∷ d ∷ rest) = omega (arith, length-words_of o rest)

pub behind : (a b c d : ℕ) (rest : List ℕ) (j m : ℕ) → j ≡ 4 + m → slice_index (a ∷ b ∷ c ∷ d ∷ rest) j ≡ slice_index rest m
behind a b c d rest j m e = let f : j ≡ suc (suc (suc (suc m))) = omega arith in rw f refl

-- one of the words
pub at-words_of : (o : Order) (bytes : List ℕ) (k i : ℕ) → i ≡ 4 * k → k < length (words_of o bytes)
    → slice_index (words_of o bytes) k ≡ word_of o (slice_index bytes i) (slice_index bytes (i + 1)) (slice_index bytes (i + 2)) (slice_index bytes (i + 3))
at-words_of o [] k i e h = omega arith
at-words_of o (a ∷ []) k i e h = omega arith
at-words_of o (a ∷ b ∷ []) k i e h = omega arith
at-words_of o (a ∷ b ∷ c ∷ []) k i e h = omega arith
at-words_of o (a ∷ b ∷ c ∷ d ∷ rest) zero i e h = let z : i ≡ 0 = omega arith in rw z refl
at-words_of o (a ∷ b ∷ c ∷ d ∷ rest) (suc k) i e h =
    let at = at-words_of o rest k (4 * k) refl (omega arith) in
    rw (behind a b c d rest i (4 * k) (omega arith), behind a b c d rest (i + 1) (4 * k + 1) (omega arith), behind a b c d rest (i + 2) (4 * k + 2) (omega arith), behind a b c d rest (i + 3) (4 * k + 3) (omega arith)) at

pub ruleset images = (length-words_of, at-words_of)

-- what was taken in two goes
pub Consumes-append : (x y z : Option (List ℕ)) (bs cs : List ℕ) → Consumes x y bs → Consumes y z cs → Consumes x z (bs ++ cs)
Consumes-append None y z bs cs p q = tt
Consumes-append (Some xs) None z bs cs p q = absurd p
Consumes-append (Some xs) (Some ys) None bs cs p q = absurd q
Consumes-append (Some xs) (Some ys) (Some zs) bs cs p q = grind (arith, common_steps)
