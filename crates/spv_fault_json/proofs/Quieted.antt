-- A JSON text without control characters, from one character to the next.
use Rattle.std.proofs.Common.{◌≡◌, ◌++◌, ◌∙◌, ◌<◌, ◌≤◌, ◌+◌, ℕ, zero, suc, List, [], ◌∷◌, Bool, true, false, length}
use Rattle.std.proofs.Common.{take, drop, refl, sym, ap, arith, append_assoc, append-nil}
use Rattle.std.specs.Prelude.{◌&&◌, ◌==◌, if◌then◌else◌, slice_index}
use Rattle.std.proofs.lemmas.Bool.Decides.{nat_tests}
use Rattle.spv_lines.specs.Plain.{is_late_control}
use Rattle.spv_fault_json.specs.Quiet.{quiet_byte, quiet_of, unicode_escape}

no_late : (a : ℕ) → is_late_control a 0 ≡ false
no_late a = by (a == 194)
  where
    by : (b : Bool) → (b && false) ≡ false
    by true = refl
    by false = refl

two_by : (x : Bool) (a b : ℕ) (text : List ℕ) → x ≡ true
    → (if x then unicode_escape b ++ quiet_of text else quiet_byte a ++ quiet_of (b ∷ text)) ≡ unicode_escape b
    ++ quiet_of text
two_by true a b text e = refl
two_by false a b text e = absurd cc

one_by : (x : Bool) (a b : ℕ) (text : List ℕ) → x ≡ false
    → (if x then unicode_escape b ++ quiet_of text else quiet_byte a ++ quiet_of (b ∷ text)) ≡ quiet_byte a
    ++ quiet_of (b ∷ text)
one_by true a b text e = absurd cc
one_by false a b text e = refl

-- a late control character in front
pub late_first : (text : List ℕ) → is_late_control (slice_index text 0) (slice_index text 1) ≡ true
    → quiet_of text ≡ unicode_escape (slice_index text 1) ++ quiet_of (drop 2 text)
late_first [] e = absurd cc
late_first (a ∷ []) e = (let n = no_late a in absurd cc)
late_first (a ∷ b ∷ text) e = two_by (is_late_control a b) a b text e

pub late_long : (text : List ℕ) → is_late_control (slice_index text 0) (slice_index text 1) ≡ true → 2 ≤ length text
late_long [] e = absurd cc
late_long (a ∷ []) e = (let n = no_late a in absurd cc)
late_long (a ∷ b ∷ text) e = omega arith

-- another byte
pub other_first : (text : List ℕ) → 0 < length text → is_late_control (slice_index text 0) (slice_index text 1) ≡ false
    → quiet_of text ≡ quiet_byte (slice_index text 0) ++ quiet_of (drop 1 text)
other_first [] l e = absurd (omega (arith, l))
other_first (a ∷ []) l e = sym (append-nil (quiet_byte a))
other_first (a ∷ b ∷ text) l e = one_by (is_late_control a b) a b text e

-- what is added for it
pub pushed_first : (text old added new : List ℕ) (n : ℕ) → quiet_of text ≡ added ++ quiet_of (drop n text)
    → new ≡ old ++ added
    → new ++ quiet_of (drop n text) ≡ old ++ quiet_of text
pushed_first text old added new n e f =
    ap (λ z. z ++ quiet_of (drop n text)) f
    ∙ (append_assoc old added (quiet_of (drop n text)) ∙ ap (λ z. old ++ z) (sym e))

-- a byte that begins no control character
quiet_by : (x : Bool) (a : ℕ) → x ≡ false → (if x then unicode_escape a else (a ∷ [])) ≡ a ∷ []
quiet_by true a e = absurd cc
quiet_by false a e = refl

late_by : (x y : Bool) → x ≡ false → (x && y) ≡ false
late_by true y e = absurd cc
late_by false y e = refl

as_it_is : (a : ℕ) (text : List ℕ) → (a == 127) ≡ false → (a == 194) ≡ false → quiet_of (a ∷ text) ≡ a ∷ quiet_of text
as_it_is a [] n m = quiet_by (a == 127) a n
as_it_is a (b ∷ text) n m =
    one_by (is_late_control a b) a b text (late_by (a == 194) _ m)
    ∙ ap (λ z. z ++ quiet_of (b ∷ text)) (quiet_by (a == 127) a n)

pub one_further : (text : List ℕ) (i : ℕ) → i < length text → ¬ (slice_index text i ≡ 127)
    → ¬ (slice_index text i ≡ 194)
    → quiet_of text ≡ take i text ++ quiet_of (drop i text)
    → quiet_of text ≡ take (i + 1) text ++ quiet_of (drop (i + 1) text)
one_further text i l n m h =
    let a = slice_index text i in
    let d : drop i text ≡ a ∷ drop (i + 1) text = dropped text i l in
    let s : quiet_of (drop i text) ≡ a ∷ quiet_of (drop (i + 1) text) = ap quiet_of d
    ∙ as_it_is a (drop (i + 1) text) (grind (arith, nat_tests)) (grind (arith, nat_tests)) in
    h ∙ (ap (λ z. take i text ++ z) s ∙ (sym (append_assoc (take i text) (a ∷ []) (quiet_of (drop (i + 1) text)))
    ∙ ap (λ z. z ++ quiet_of (drop (i + 1) text)) (sym (taken text i l))))
  where
    dropped : (xs : List ℕ) (k : ℕ) → k < length xs → drop k xs ≡ slice_index xs k ∷ drop (k + 1) xs
    dropped [] k g = absurd (omega (arith, g))
    dropped (x ∷ xs) zero g = refl
    dropped (x ∷ xs) (suc k) g = let e : suc k + 1 ≡ suc (k + 1) = omega arith in rw e (dropped xs k (omega (arith, g)))

    taken : (xs : List ℕ) (k : ℕ) → k < length xs → take (k + 1) xs ≡ take k xs ++ (slice_index xs k ∷ [])
    taken [] k g = absurd (omega (arith, g))
    taken (x ∷ xs) zero g = refl
    taken (x ∷ xs) (suc k) g = let e : suc k + 1 ≡ suc (k + 1) = omega arith in
        rw e (ap (λ z. x ∷ z) (taken xs k (omega (arith, g))))
