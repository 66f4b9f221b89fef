-- The words of a text tell the text, and the text its words.
use Rattle.std.proofs.Common.{◌≡◌, ◌≢◌, ◌++◌, ◌∙◌, ◌<◌, ◌+◌, ◌*◌, ◌/◌, ◌%◌, ℕ, List, [], ◌∷◌, length, refl, sym, ap}
use Rattle.std.proofs.Common.{arith, append_assoc, length-append}
use Rattle.std.specs.List.{AllByRecursion}
use Rattle.spv_module.specs.Spelling.{octets_of, HoldsText, AreZeros}

pub octets-append : (ws us : List ℕ) → octets_of (ws ++ us) ≡ octets_of ws ++ octets_of us
octets-append [] us = refl
octets-append (w ∷ ws) us =
    ap (λ bs. (w % 256) ∷ (w / 256 % 256) ∷ (w / 65536 % 256) ∷ (w / 16777216 % 256) ∷ bs) (octets-append ws us)

pub length-octets : (ws : List ℕ) → length (octets_of ws) ≡ 4 * length ws
length-octets [] = refl
length-octets (w ∷ ws) = omega (arith, length-octets ws)

pub record Both (A B : Type 0) : Type 0 where
  pub first : A
  pub second : B

-- the first zero is at one place
pub before_zero : (t s p q : List ℕ) → AllByRecursion (λ b. b ≢ 0) t → AllByRecursion (λ b. b ≢ 0) s
    → t ++ (0 ∷ p) ≡ s ++ (0 ∷ q)
    → Both (t ≡ s) (p ≡ q)
before_zero [] [] p q h g e = record { first = refl; second = cc }
before_zero [] (y ∷ s) p q h g e = let z : y ≡ 0 = cc in absurd (g.0 z)
before_zero (x ∷ t) [] p q h g e = let z : x ≡ 0 = cc in absurd (h.0 z)
before_zero (x ∷ t) (y ∷ s) p q h g e =
    let z : x ≡ y = cc in
    let f : t ++ (0 ∷ p) ≡ s ++ (0 ∷ q) = cc in
    let r = before_zero t s p q h.1 g.1 f in
    let m = r.first in
    record { first = cc; second = r.second }

pub parts_same : (ws vs us xs : List ℕ) → length ws ≡ length vs → ws ++ us ≡ vs ++ xs → Both (ws ≡ vs) (us ≡ xs)
parts_same [] [] us xs l e = record { first = refl; second = e }
parts_same [] (v ∷ vs) us xs l e = absurd (omega arith)
parts_same (w ∷ ws) [] us xs l e = absurd (omega arith)
parts_same (w ∷ ws) (v ∷ vs) us xs l e =
    let z : w ≡ v = cc in
    let f : ws ++ us ≡ vs ++ xs = cc in
    let m : length ws ≡ length vs = omega arith in
    let r = parts_same ws vs us xs m f in
    let n = r.first in
    record { first = cc; second = r.second }

-- one word's octets tell it
pub word_same : (w v : ℕ) → w < 4294967296 → v < 4294967296 → w % 256 ≡ v % 256 → w / 256 % 256 ≡ v / 256 % 256
    → w / 65536 % 256 ≡ v / 65536 % 256 → w / 16777216 % 256 ≡ v / 16777216 % 256 → w ≡ v
word_same w v h g a b c d = omega arith

pub words_same : (ws vs : List ℕ) → AllByRecursion (λ w. w < 4294967296) ws → AllByRecursion (λ w. w < 4294967296) vs
    → octets_of ws ≡ octets_of vs → ws ≡ vs
words_same [] [] h g e = refl
words_same [] (v ∷ vs) h g e = cc
words_same (w ∷ ws) [] h g e = cc
words_same (w ∷ ws) (v ∷ vs) h g e =
    let a : w % 256 ≡ v % 256 = cc in
    let b : w / 256 % 256 ≡ v / 256 % 256 = cc in
    let c : w / 65536 % 256 ≡ v / 65536 % 256 = cc in
    let d : w / 16777216 % 256 ≡ v / 16777216 % 256 = cc in
    let f : octets_of ws ≡ octets_of vs = cc in
    let x = word_same w v h.0 g.0 a b c d in
    let r = words_same ws vs h.1 g.1 f in
    cc

pub zeros_same : (p q : List ℕ) → AreZeros p → AreZeros q → length p ≡ length q → p ≡ q
zeros_same [] [] h g l = refl
zeros_same [] (y ∷ q) h g l = absurd (omega arith)
zeros_same (x ∷ p) [] h g l = absurd (omega arith)
zeros_same (x ∷ p) (y ∷ q) h g l =
    let m : length p ≡ length q = omega arith in
    let r = zeros_same p q h.1 g.1 m in
    let a : x ≡ 0 = h.0 in
    let b : y ≡ 0 = g.0 in
    cc

-- what two readings of the same words share
pub record SameText (ws vs t s p q us xs : List ℕ) : Type 0 where
  pub texts : t ≡ s
  pub words : ws ≡ vs
  pub paddings : p ≡ q
  pub rests : us ≡ xs

pub text_same : (ws vs t s p q us xs : List ℕ) → HoldsText ws t p → HoldsText vs s q → ws ++ us ≡ vs ++ xs
    → SameText ws vs t s p q us xs
text_same ws vs t s p q us xs h g e =
    let a : octets_of ws ++ octets_of us ≡ octets_of vs ++ octets_of xs = sym (octets-append ws us)
    ∙ (ap octets_of e ∙ octets-append vs xs) in
    let b : (t ++ (0 ∷ p)) ++ octets_of us ≡ (s ++ (0 ∷ q)) ++ octets_of xs = rw (h.octets, g.octets) at a in
    let d : t ++ (0 ∷ (p ++ octets_of us)) ≡ s ++ (0 ∷ (q ++ octets_of xs)) = simp append_assoc at b in
    let r = before_zero t s (p ++ octets_of us) (q ++ octets_of xs) h.no_zero g.no_zero d in
    let m : length t ≡ length s = ap length r.first in
    let lw : length t + (1 + length p) ≡ 4 * length ws = text_length ws t p h in
    let lv : length s + (1 + length q) ≡ 4 * length vs = text_length vs s q g in
    let hp = h.short in
    let gq = g.short in
    let l : length ws ≡ length vs = omega arith in
    let n : length p ≡ length q = omega arith in
    let k = parts_same ws vs us xs l e in
    let pq = parts_same p q (octets_of us) (octets_of xs) n r.second in
    record { texts = r.first; words = k.first; paddings = pq.first; rests = k.second }
  where
    text_length : (ws t p : List ℕ) → HoldsText ws t p → length t + (1 + length p) ≡ 4 * length ws
    text_length ws t p h =
        let a : length (octets_of ws) ≡ length (t ++ (0 ∷ p)) = ap length h.octets in
        let b = length-octets ws in
        let d : length (t ++ (0 ∷ p)) ≡ length t + length (0 ∷ p) = length-append t (0 ∷ p) in
        omega arith

-- a text has one spelling
pub spelling_same : (ws vs t s p q : List ℕ) → HoldsText ws t p → HoldsText vs s q → AreZeros p → AreZeros q → t ≡ s
    → ws ≡ vs
spelling_same ws vs t s p q h g z y e =
    let hp = h.short in
    let gq = g.short in
    let a : length (octets_of ws) ≡ length (t ++ (0 ∷ p)) = ap length h.octets in
    let b = length-octets ws in
    let d : length (t ++ (0 ∷ p)) ≡ length t + length (0 ∷ p) = length-append t (0 ∷ p) in
    let a' : length (octets_of vs) ≡ length (s ++ (0 ∷ q)) = ap length g.octets in
    let b' = length-octets vs in
    let d' : length (s ++ (0 ∷ q)) ≡ length s + length (0 ∷ q) = length-append s (0 ∷ q) in
    let m : length t ≡ length s = ap length e in
    let n : length p ≡ length q = omega arith in
    let pq = zeros_same p q z y n in
    let ho = h.octets in
    let go = g.octets in
    let f : octets_of ws ≡ octets_of vs = cc in
    words_same ws vs h.words g.words f
