-- The lines of a text, one after another.
use Rattle.std.proofs.Common.{◌≡◌, ◌<◌, ◌+◌, ◌++◌, ℕ, suc, Bool, true, false, cond, List, [], ◌∷◌, codes, flat_map, length, take, drop, refl, ap, arith, append_assoc}
use Rattle.std.specs.Prelude.{◌==◌, if◌then◌else◌, not}
use Rattle.std.specs.List.{after_first, before_first, position_or_len}
use Rattle.spv_rules.specs.Codes.{indented, indented_byte}
use Rattle.spv_rules.specs.inner.Lines.{indented_line}

-- the first byte of a text that has an end of a line, at place p of what follows it, and one that has none
first_of : (x : Bool) (b p : ℕ) (text : List ℕ) → cond (not x) (1 + p) 0 < length (b ∷ text)
    → (p < length text → flat_map indented_byte text ≡ take p text ++ (codes "\n    " ++ flat_map indented_byte (drop (p + 1) text)))
    → (if x then codes "\n    " else (b ∷ [])) ++ flat_map indented_byte text
    ≡ take (cond (not x) (1 + p) 0) (b ∷ text) ++ (codes "\n    " ++ flat_map indented_byte (drop (cond (not x) (1 + p) 0 + 1) (b ∷ text)))
first_of true b p text l h = refl
first_of false b p text l h =
    let n : 1 + p ≡ suc p = omega arith in
    let m : suc p + 1 ≡ suc (p + 1) = omega arith in
    rw (n, m) (ap (λ z. b ∷ z) (h (omega (arith, l))))

none_of : (x : Bool) (b p : ℕ) (text : List ℕ) → cond (not x) (1 + p) 0 ≡ length (b ∷ text)
    → (p ≡ length text → flat_map indented_byte text ≡ text) → (if x then codes "\n    " else (b ∷ [])) ++ flat_map indented_byte text ≡ b ∷ text
none_of true b p text e h = absurd (omega (arith, e))
none_of false b p text e h = ap (λ z. b ∷ z) (h (omega (arith, e)))

parted : (text : List ℕ) → position_or_len (λ b. b == 10) text < length text
    → flat_map indented_byte text ≡ before_first (λ b. b == 10) text ++ (codes "\n    " ++ flat_map indented_byte (after_first (λ b. b == 10) text))
parted [] l = absurd (omega (arith, l))
parted (b ∷ text) l = first_of (b == 10) b (position_or_len (λ c. c == 10) text) text l (parted text)

whole : (text : List ℕ) → position_or_len (λ b. b == 10) text ≡ length text → flat_map indented_byte text ≡ text
whole [] e = refl
whole (b ∷ text) e = none_of (b == 10) b (position_or_len (λ c. c == 10) text) text e (whole text)

-- the first line of a text that has more, and the only one of a text
pub one_line : (text line more : List ℕ) → line ≡ before_first (λ b. b == 10) text → more ≡ after_first (λ b. b == 10) text
    → position_or_len (λ b. b == 10) text < length text → indented text ≡ indented_line line ++ indented more
one_line text line more e f l =
    let r = flat_map indented_byte more in
    rw (parted text l, ← e, ← f, append_assoc line (codes "\n    " ++ r) (codes "\n"), append_assoc line (codes "\n") (indented more)) refl

pub last_line : (text : List ℕ) → position_or_len (λ b. b == 10) text ≡ length text → indented text ≡ indented_line text
last_line text e = rw (whole text e) refl
