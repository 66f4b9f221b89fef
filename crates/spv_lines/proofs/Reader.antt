-- What the readers and writers of tokens keep.
use Rattle.std.proofs.Common.{◌≡◌, ◌≢◌, ◌++◌, ◌∙◌, ◌<◌, ◌≤◌, ◌+◌, ◌-◌, ◌*◌, ◌^◌, ℕ, zero, suc, List, [], ◌∷◌, Option}
use Rattle.std.proofs.Common.{Some, None, Bool, true, false, not, ◌&&◌, nat_eq, length, take, drop, get_or, refl, ap}
use Rattle.std.proofs.Common.{arith}
use Rattle.std.specs.Prelude.{SomeIff, ◌==◌}
use Rattle.memchr.specs.Find.{IsFirstByte, is_byte}
use Rattle.std.specs.List.{list_all}
use Rattle.std.proofs.lemmas.List.{take_more}
use Rattle.std.proofs.lemmas.Bool.Decides.{nat_tests}
use Rattle.spv_lines.specs.Digits.{is_digit, is_lean, is_number, value, value_after}
use Rattle.spv_lines.specs.Line.{before_space, from_space}

value_push : (n d : ℕ) (xs : List ℕ) → value_after n (xs ++ (d ∷ [])) ≡ value_after n xs * 10 + (d - 48)
value_push n d [] = refl
value_push n d (x ∷ xs) = value_push (n * 10 + (x - 48)) d xs

digits_push : (d : ℕ) (xs : List ℕ) → list_all is_digit xs ≡ true → is_digit d ≡ true
    → list_all is_digit (xs ++ (d ∷ [])) ≡ true
digits_push d [] h g = rw g refl
digits_push d (x ∷ xs) h g =
    let r = both (is_digit x) (list_all is_digit xs) h in
    rw (r.0, digits_push d xs r.1 g) refl
  where
    both : (a b : Bool) → (a && b) ≡ true → (a ≡ true) × (b ≡ true)
    both true b h = (refl, h)
    both false b h = cc

is_digit_by : (d : ℕ) → 48 ≤ d → d ≤ 57 → is_digit d ≡ true
is_digit_by d h g = grind (arith, nat_tests)

pub digits_more : (xs : List ℕ) (i : ℕ) → i < length xs → 48 ≤ get_or xs i 0 → get_or xs i 0 ≤ 57
    → list_all is_digit (take i xs) ≡ true → list_all is_digit (take (i + 1) xs) ≡ true
digits_more xs i l h g e =
    rw (take_more xs i 0 l) (digits_push (get_or xs i 0) (take i xs) e (is_digit_by (get_or xs i 0) h g))

pub value_more : (xs : List ℕ) (i : ℕ) → i < length xs
    → value (take (i + 1) xs) ≡ value (take i xs) * 10 + (get_or xs i 0 - 48)
value_more xs i l = rw (take_more xs i 0 l) (value_push 0 (get_or xs i 0) (take i xs))

-- a number so far, or that it is too large
abbrev pub SoFar : Option ℕ → ℕ → Type 0
SoFar None v = 2 ^ 64 ≤ v
SoFar (Some n) v = (v ≡ n) × (n < 2 ^ 64)

not_below : (m w : ℕ) → w ≡ m → (m < 2 ^ 64 → ⊥) → 2 ^ 64 ≤ w
not_below m w e n = grind arith

pub so_far_some : (o p : Option ℕ) (n v w d : ℕ) → SoFar o v → o ≡ Some n → w ≡ v * 10 + d
    → SomeIff p (n * 10 + d < 2 ^ 64) (n * 10 + d) → SoFar p w
so_far_some o None n v w d h f e g = let s : SoFar (Some n) v = rw f at h in let k = s.0 in
    not_below (n * 10 + d) w (omega arith) g
so_far_some o (Some m) n v w d h f e g = let s : SoFar (Some n) v = rw f at h in let k = s.0 in let j = g.1 in
    let l = g.0 in (omega arith, omega arith)

pub so_far_none : (o p : Option ℕ) (v w d : ℕ) → SoFar o v → o ≡ None → p ≡ None → w ≡ v * 10 + d → SoFar p w
so_far_none o p v w d h f g e = let k : 2 ^ 64 ≤ v = rw f at h in rw g (omega arith)

-- a digit that is none
no_digit : (d : ℕ) (a b : List ℕ) → is_digit d ≡ false → list_all is_digit (a ++ (d ∷ b)) ≡ false
no_digit d [] b h = rw h refl
no_digit d (x ∷ a) b h = step (is_digit x) (no_digit d a b h)
  where
    step : (t : Bool) → list_all is_digit (a ++ (d ∷ b)) ≡ false → (t && list_all is_digit (a ++ (d ∷ b))) ≡ false
    step true e = e
    step false e = refl

cut : (xs : List ℕ) (i : ℕ) → i < length xs → xs ≡ take i xs ++ (get_or xs i 0 ∷ drop (i + 1) xs)
cut [] i l = absurd (omega arith)
cut (x ∷ xs) zero l = refl
cut (x ∷ xs) (suc i) l = let m : i < length xs = omega arith in let e : suc i + 1 ≡ suc (i + 1) = omega arith in
    rw e (ap (λ z. x ∷ z) (cut xs i m))

and_false : (a b : Bool) → b ≡ false → (a && b) ≡ false
and_false true b h = h
and_false false b h = refl

is_digit_not_below : (d : ℕ) → d < 48 → is_digit d ≡ false
is_digit_not_below d h = grind (arith, nat_tests)

is_digit_not_above : (d : ℕ) → 57 < d → is_digit d ≡ false
is_digit_not_above d h = grind (arith, nat_tests)

wrong_digit : (xs : List ℕ) (i : ℕ) → i < length xs → is_digit (get_or xs i 0) ≡ false → is_number xs ≡ false
wrong_digit xs i l h =
    let e = no_digit (get_or xs i 0) (take i xs) (drop (i + 1) xs) h in
    let f : list_all is_digit xs ≡ false = ap (list_all is_digit) (cut xs i l) ∙ e in
    and_false (is_lean xs) (list_all is_digit xs) f

pub wrong_low : (xs : List ℕ) (i : ℕ) → i < length xs → get_or xs i 0 < 48 → is_number xs ≡ false
wrong_low xs i l h = wrong_digit xs i l (is_digit_not_below (get_or xs i 0) h)

pub wrong_high : (xs : List ℕ) (i : ℕ) → i < length xs → 57 < get_or xs i 0 → is_number xs ≡ false
wrong_high xs i l h = wrong_digit xs i l (is_digit_not_above (get_or xs i 0) h)

not_zero : (b : ℕ) → b ≢ 48 → not (nat_eq b 48) ≡ true
not_zero b h = grind (arith, nat_tests)

is_zero : (b : ℕ) → b ≡ 48 → not (nat_eq b 48) ≡ false
is_zero b h = grind (arith, nat_tests)

pub lean_by : (xs : List ℕ) → xs ≢ [] → (1 < length xs → get_or xs 0 0 ≢ 48) → is_lean xs ≡ true
lean_by [] h g = absurd (h refl)
lean_by (b ∷ []) h g = refl
lean_by (b ∷ c ∷ xs) h g = not_zero b (g (omega arith))

pub needless : (xs : List ℕ) → 1 < length xs → get_or xs 0 0 ≡ 48 → is_number xs ≡ false
needless [] h g = absurd (omega arith)
needless (b ∷ []) h g = absurd (omega arith)
needless (b ∷ c ∷ xs) h g = let e = is_zero b g in rw e refl

pub number_by : (xs : List ℕ) → is_lean xs ≡ true → list_all is_digit xs ≡ true → is_number xs ≡ true
number_by xs h g = rw (h, g) refl

-- where a token ends
pub token_at : (xs : List ℕ) (i : ℕ) → i < length xs → ((k : ℕ) → k < i → get_or xs k 0 ≢ 32) → get_or xs i 0 ≡ 32
    → (before_space xs ≡ take i xs) × (from_space xs ≡ drop i xs)
token_at [] i l h g = absurd (omega arith)
token_at (x ∷ xs) zero l h g = let e : nat_eq x 32 ≡ true = eq_of x 32 g in (rw e refl, rw e refl)
  where
    eq_of : (a b : ℕ) → a ≡ b → nat_eq a b ≡ true
    eq_of a b e = grind (arith, nat_tests)
token_at (x ∷ xs) (suc i) l h g =
    let e : nat_eq x 32 ≡ false = ne_of x 32 (h 0 (omega arith)) in
    let r = token_at xs i (omega arith) (λ k m. h (suc k) (omega arith)) g in
    (rw (e, r.0) refl, rw (e, r.1) refl)
  where
    ne_of : (a b : ℕ) → a ≢ b → nat_eq a b ≡ false
    ne_of a b e = grind (arith, nat_tests)

pub token_whole : (xs : List ℕ) → ((k : ℕ) → k < length xs → get_or xs k 0 ≢ 32)
    → (before_space xs ≡ xs) × (from_space xs ≡ [])
token_whole [] h = (refl, refl)
token_whole (x ∷ xs) h =
    let e : nat_eq x 32 ≡ false = ne_of x 32 (h 0 (omega arith)) in
    let r = token_whole xs (λ k m. h (suc k) (omega arith)) in
    (rw (e, r.0) refl, rw (e, r.1) refl)
  where
    ne_of : (a b : ℕ) → a ≢ b → nat_eq a b ≡ false
    ne_of a b e = grind (arith, nat_tests)

passes : (a : ℕ) → a ≡ 32 → (a == 32) ≡ true
passes a e = grind (arith, nat_tests)

passed : (a : ℕ) → (a == 32) ≡ true → a ≡ 32
passed a e = grind (arith, nat_tests)

pub token_some : (xs : List ℕ) (i : ℕ) → IsFirstByte (is_byte 32) xs (Some i)
    → (before_space xs ≡ take i xs) × (from_space xs ≡ drop i xs)
token_some xs i h = token_at xs i h.0.high (λ k l e. h.0.before k (omega arith) l (passes (get_or xs k 0) e))
    (passed (get_or xs i 0) h.1)

pub token_none : (xs : List ℕ) → IsFirstByte (is_byte 32) xs None → (before_space xs ≡ xs) × (from_space xs ≡ [])
token_none xs h = token_whole xs (λ k l e. h k (omega arith) l (passes (get_or xs k 0) e))
