-- Numbers of the command line that were read.
use Rattle.std.proofs.Common.{◌≡◌, ◌≢◌, ◌∙◌, ◌<◌, ◌≤◌, ◌+◌, ◌*◌, ◌-◌, ◌^◌, ◌++◌, ℕ, zero, suc, List, [], ◌∷◌, Option, Some, None, Bool, true, false, ◌&&◌, nat_eq, length, length-drop, take, drop, get_or, refl, sym, ap, arith, codes}
use Rattle.std.specs.Prelude.{◌==◌}
use Rattle.std.specs.List.{AllZip, list_all}
use Rattle.memchr.specs.Find.{IsFirstByte, is_byte}
use Rattle.std.proofs.lemmas.Bool.Decides.{nat_tests}
use Rattle.std.proofs.lemmas.List.{drop_all, take_all}
use Rattle.spv_lines.specs.Digits.{is_digit, value, value_after}
use Rattle.spv_command_line.specs.Number.{AreNumbers, IsNumber, parts_of}
use Rattle.spv_command_line.specs.inner.Reading.{parts_left}

-- an octet is a digit or none
pub digit_by : (d : ℕ) → 48 ≤ d → d ≤ 57 → is_digit d ≡ true
digit_by d h g = grind (arith, nat_tests)

pub low_octet : (d : ℕ) → d < 48 → is_digit d ≡ true → ⊥
low_octet d h g = grind (arith, nat_tests)

pub high_octet : (d : ℕ) → 57 < d → is_digit d ≡ true → ⊥
high_octet d h g = grind (arith, nat_tests)

-- more digits make no smaller number
pub value_grows : (n : ℕ) (ds : List ℕ) → n ≤ value_after n ds
value_grows n [] = omega arith
value_grows n (d ∷ ds) = let h = value_grows (n * 10 + (d - 48)) ds in omega (arith, h)

-- So much of a text is a number, and the rest is left.
pub record NumberSoFar (text rest : List ℕ) (number : ℕ) : Type 0 where
  pub digits : list_all is_digit text ≡ list_all is_digit rest
  pub is_value : value text ≡ value_after number rest
  pub fits : number < 2 ^ 32

digits_left : (d : ℕ) (ds : List ℕ) → is_digit d ≡ true → list_all is_digit (d ∷ ds) ≡ list_all is_digit ds
digits_left d ds h = rw h refl

pub number_more : (text ds : List ℕ) (d number more : ℕ) → NumberSoFar text (d ∷ ds) number → is_digit d ≡ true → more ≡ number * 10 + (d - 48) → more < 2 ^ 32 → NumberSoFar text ds more
number_more text ds d number more s h e f = record { digits = s.digits ∙ digits_left d ds h; is_value = rw e s.is_value; fits = f }

first_digit : (a b : Bool) → (a && b) ≡ true → a ≡ true
first_digit true b h = refl
first_digit false b h = cc

pub number_stops : (text ds : List ℕ) (d number n : ℕ) → NumberSoFar text (d ∷ ds) number → (is_digit d ≡ true → 2 ^ 32 ≤ number * 10 + (d - 48)) → ¬ (IsNumber text n)
number_stops text ds d number n s h m =
    let all : list_all is_digit (d ∷ ds) ≡ true = sym s.digits ∙ m.digits in
    let digit : is_digit d ≡ true = first_digit (is_digit d) (list_all is_digit ds) all in
    let low = h digit in
    let grows = value_grows (number * 10 + (d - 48)) ds in
    let v : value_after (number * 10 + (d - 48)) ds ≡ n = sym s.is_value ∙ m.is_value in
    let b = m.fits in
    omega (arith, low, grows, v, b)

pub number_ends : (text : List ℕ) (i number : ℕ) → NumberSoFar text (drop i text) number → length text ≤ i → 0 < length text → IsNumber text number
number_ends text i number s past h =
    let t : NumberSoFar text [] number = rw (drop_all i text past) at s in
    record { some = h; digits = t.digits; is_value = t.is_value; fits = t.fits }

pub not_empty : (n : ℕ) (b : Bool) → b ≡ (n == 0) → b ≡ false → 0 < n
not_empty zero b e f = cc
not_empty (suc n) b e f = omega arith

pub no_digits : (text : List ℕ) (n : ℕ) → length text ≡ 0 → ¬ (IsNumber text n)
no_digits text n e m = let s = m.some in omega (arith, s, e)

-- where texts are divided
passes : (a m : ℕ) → a ≡ m → (a == m) ≡ true
passes a m e = grind (arith, nat_tests)

passed : (a m : ℕ) → (a == m) ≡ true → a ≡ m
passed a m e = grind (arith, nat_tests)

eq_of : (a b : ℕ) → a ≡ b → nat_eq a b ≡ true
eq_of a b e = grind (arith, nat_tests)

ne_of : (a b : ℕ) → a ≢ b → nat_eq a b ≡ false
ne_of a b e = grind (arith, nat_tests)

parts_by : (xs : List ℕ) (i : ℕ) → i < length xs → ((k : ℕ) → k < i → get_or xs k 0 ≢ 44) → get_or xs i 0 ≡ 44 → parts_of xs ≡ take i xs ∷ parts_of (drop (i + 1) xs)
parts_by [] i l h g = absurd (omega arith)
parts_by (x ∷ xs) zero l h g = let e = eq_of x 44 g in rw e refl
parts_by (x ∷ xs) (suc i) l h g =
    let e = ne_of x 44 (h 0 (omega arith)) in
    let r = parts_by xs i (omega arith) (λ k m. h (suc k) (omega arith)) g in
    let s : suc i + 1 ≡ suc (i + 1) = omega arith in
    rw (e, r, s) refl

pub parts_at : (xs : List ℕ) (i : ℕ) → IsFirstByte (is_byte 44) xs (Some i) → parts_of xs ≡ take i xs ∷ parts_of (drop (i + 1) xs)
parts_at xs i h = parts_by xs i h.0.high (λ k l e. h.0.before k (omega arith) l (passes (get_or xs k 0) 44 e)) (passed (get_or xs i 0) 44 h.1)

one_part_by : (xs : List ℕ) → ((k : ℕ) → k < length xs → get_or xs k 0 ≢ 44) → parts_of xs ≡ xs ∷ []
one_part_by [] h = refl
one_part_by (x ∷ xs) h =
    let e = ne_of x 44 (h 0 (omega arith)) in
    let r = one_part_by xs (λ k m. h (suc k) (omega arith)) in
    rw (e, r) refl

pub one_part : (xs : List ℕ) → IsFirstByte (is_byte 44) xs None → parts_of xs ≡ xs ∷ []
one_part xs h = one_part_by xs (λ k l e. h k (omega arith) l (passes (get_or xs k 0) 44 e))

-- So many parts of a text are numbers, and the rest is left.
pub record NumbersSoFar (text : List ℕ) (rest : Option (List ℕ)) (numbers : List ℕ) : Type 0 where
  pub done : List (List ℕ)
  pub are : AllZip IsNumber done numbers
  pub all : parts_of text ≡ done ++ parts_left rest

zip_push : (ts : List (List ℕ)) (ns : List ℕ) (t : List ℕ) (n : ℕ) → AllZip IsNumber ts ns → IsNumber t n → AllZip IsNumber (ts ++ t ∷ []) (ns ++ n ∷ [])
zip_push [] [] t n a h = (h, tt)
zip_push [] (m ∷ ns) t n a h = absurd a
zip_push (s ∷ ts) [] t n a h = absurd a
zip_push (s ∷ ts) (m ∷ ns) t n a h = (a.0, zip_push ts ns t n a.1 h)

zip_fails : (ts : List (List ℕ)) (t : List ℕ) (us : List (List ℕ)) (ns : List ℕ) → ((n : ℕ) → ¬ (IsNumber t n)) → ¬ (AllZip IsNumber (ts ++ t ∷ us) ns)
zip_fails [] t us [] h a = a
zip_fails [] t us (n ∷ ns) h a = h n a.0
zip_fails (s ∷ ts) t us [] h a = a
zip_fails (s ∷ ts) t us (n ∷ ns) h a = zip_fails ts t us ns h a.1

push_assoc : (ts us : List (List ℕ)) (t : List ℕ) → ts ++ (t ∷ us) ≡ (ts ++ t ∷ []) ++ us
push_assoc [] us t = refl
push_assoc (s ∷ ts) us t = ap (λ z. s ∷ z) (push_assoc ts us t)

pub numbers_more : (text part : List ℕ) (left : List ℕ) (behind : Option (List ℕ)) (numbers : List ℕ) (n : ℕ) → NumbersSoFar text (Some left) numbers
    → parts_of left ≡ part ∷ parts_left behind → IsNumber part n → NumbersSoFar text behind (numbers ++ n ∷ [])
numbers_more text part left behind numbers n s e h = record {
  done = s.done ++ part ∷ [];
  are = zip_push s.done numbers part n s.are h;
  all = s.all ∙ ap (λ z. s.done ++ z) e ∙ push_assoc s.done (parts_left behind) part;
}

pub numbers_stop : (text part : List ℕ) (left : List ℕ) (behind : Option (List ℕ)) (numbers ns : List ℕ) → NumbersSoFar text (Some left) numbers
    → parts_of left ≡ part ∷ parts_left behind → ((n : ℕ) → ¬ (IsNumber part n)) → ¬ (AreNumbers text ns)
numbers_stop text part left behind numbers ns s e h a =
    let all : parts_of text ≡ s.done ++ (part ∷ parts_left behind) = s.all ∙ ap (λ z. s.done ++ z) e in
    let b : AllZip IsNumber (s.done ++ (part ∷ parts_left behind)) ns = rw all at a in
    zip_fails s.done part (parts_left behind) ns h b

append_none : (ts : List (List ℕ)) → ts ++ [] ≡ ts
append_none [] = refl
append_none (t ∷ ts) = ap (λ z. t ∷ z) (append_none ts)

pub numbers_end : (text numbers : List ℕ) → NumbersSoFar text None numbers → AreNumbers text numbers
numbers_end text numbers s = rw (s.all, append_none s.done) s.are

-- a comma at the end leaves an empty part
pub comma_at_the_end : (ns : List ℕ) → ¬ (AreNumbers (codes "0,") ns)
comma_at_the_end [] a = a
comma_at_the_end (n ∷ []) a = a.1
comma_at_the_end (n ∷ m ∷ ns) a = let s = a.1.0.some in omega (arith, s)

-- what is lent of a list from a place on is the rest of it
pub rest_lent : {X : Type 0} (xs : List X) (i : ℕ) → take (length xs - i) (drop i xs) ≡ drop i xs
rest_lent xs i = take_all (length xs - i) (drop i xs) (rw (length-drop i xs) (omega arith))
