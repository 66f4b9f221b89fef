-- A text without control characters, from one of them to the next.
use Rattle.std.proofs.Common.{◌≡◌, ◌++◌, ◌∙◌, ◌<◌, ◌≤◌, ◌+◌, ◌-◌, ◌/◌, ℕ, zero, suc, List, [], ◌∷◌, Bool, true, false}
use Rattle.std.proofs.Common.{cond, length, take, drop, get_or, refl, sym, ap, subst, arith, append_assoc}
use Rattle.std.proofs.Common.{IsUtf8, IsCharBoundary, flat_map, drop-drop, length-drop, ◌⊎◌, inl, inr}
use Rattle.std.specs.Prelude.{◌&&◌, ◌==◌, if◌then◌else◌}
use Rattle.std.specs.Char.{len_utf8}
use Rattle.std.proofs.lemmas.Str.{IsCharBoundary-after_ascii, IsCharBoundary-past_char, IsUtf8-drop}
use Rattle.std.proofs.lemmas.Bool.Decides.{nat_tests}
use lib.Dec.{T, ltb, ltb→lt}
use lib.Utf8.{encode, encodes, next}
use Rattle.spv_lines.specs.Plain.{escaped, is_control, is_late_control, plain_of}
use Rattle.spv_lines.specs.inner.Control.{IsFirstControl, control_size}
use Rattle.spv_lines.proofs.Steps.{drop_step, got}

-- all of a text from one place on
take_all : (xs : List ℕ) (n : ℕ) → length xs ≤ n → take n xs ≡ xs
take_all [] zero l = refl
take_all [] (suc n) l = refl
take_all (x ∷ xs) zero l = absurd (omega (arith, l))
take_all (x ∷ xs) (suc n) l = ap (λ z. x ∷ z) (take_all xs n (omega (arith, l)))

pub tail : (xs : List ℕ) (i : ℕ) → take (length xs - i) (drop i xs) ≡ drop i xs
tail xs i = let d = length-drop i xs in take_all (drop i xs) (length xs - i) (omega (arith, d))

-- how many bytes a control character has, by whether the first is one and whether two are
abbrev size_by : Bool → Bool → ℕ
size_by x y = if x then 1 else (if y then 2 else 0)

-- a character that is none
none_one : (x y : Bool) (a : ℕ) → size_by x y ≡ 0 → (if x then escaped a else (a ∷ [])) ≡ a ∷ []
none_one true y a h = absurd (omega (arith, h))
none_one false y a h = refl

none_two : (x y : Bool) (a : ℕ) (late rest : List ℕ) → size_by x y ≡ 0
    → (if y then late else ((if x then escaped a else (a ∷ [])) ++ rest)) ≡ a ∷ rest
none_two true y a late rest h = absurd (omega (arith, h))
none_two false true a late rest h = absurd (omega (arith, h))
none_two false false a late rest h = refl

none_begins : (a : ℕ) (xs : List ℕ) → control_size (a ∷ xs) ≡ 0 → plain_of (a ∷ xs) ≡ a ∷ plain_of xs
none_begins a [] h = none_one (is_control a) (is_late_control a 0) a h
none_begins a (b ∷ xs) h =
    none_two (is_control a) (is_late_control a b) a (escaped a ++ (escaped b ++ plain_of xs)) (plain_of (b ∷ xs)) h

-- one that is
alone : (a : ℕ) → is_late_control a 0 ≡ false
alone a = by (a == 194)
  where
    by : (b : Bool) → (b && false) ≡ false
    by true = refl
    by false = refl

either : (a b : ℕ) → is_control a ≡ true → is_late_control a b ≡ false
either a b h = grind (arith, nat_tests)

one_begins : (x y : Bool) (a : ℕ) → y ≡ false → 0 < size_by x y
    → (if x then escaped a else (a ∷ []))
    ≡ flat_map escaped (take (size_by x y) (a ∷ [])) ++ plain_of (drop (size_by x y) (a ∷ []))
one_begins true y a e l = refl
one_begins false true a e l = absurd cc
one_begins false false a e l = absurd (omega (arith, l))

two_begin : (x y : Bool) (a b : ℕ) (xs : List ℕ) → (x ≡ true → y ≡ false) → 0 < size_by x y
    → (if y then escaped a ++ (escaped b ++ plain_of xs)
    else ((if x then escaped a else (a ∷ [])) ++ plain_of (b ∷ xs)))
    ≡ flat_map escaped (take (size_by x y) (a ∷ b ∷ xs)) ++ plain_of (drop (size_by x y) (a ∷ b ∷ xs))
two_begin true true a b xs e l = (let f = e refl in absurd cc)
two_begin true false a b xs e l = refl
two_begin false true a b xs e l = refl
two_begin false false a b xs e l = absurd (omega (arith, l))

control_begins : (xs : List ℕ) → 0 < control_size xs
    → plain_of xs ≡ flat_map escaped (take (control_size xs) xs) ++ plain_of (drop (control_size xs) xs)
control_begins [] l = absurd (omega (arith, l))
control_begins (a ∷ []) l = one_begins (is_control a) (is_late_control a 0) a (alone a) l
control_begins (a ∷ b ∷ xs) l = two_begin (is_control a) (is_late_control a b) a b xs (either a b) l

-- one place further
pub plain_step : (xs : List ℕ) (i : ℕ) → i < length xs → control_size (drop i xs) ≡ 0
    → plain_of xs ≡ take i xs ++ plain_of (drop i xs)
    → plain_of xs ≡ take (i + 1) xs ++ plain_of (drop (i + 1) xs)
plain_step xs i l n h =
    let x = get_or xs i 0 in
    let d : drop i xs ≡ x ∷ drop (i + 1) xs = drop_step xs i x (got xs i l) in
    let s : plain_of (drop i xs) ≡ x ∷ plain_of (drop (i + 1) xs) = ap plain_of d
    ∙ none_begins x (drop (i + 1) xs) (subst (λ z. control_size z ≡ 0) d n) in
    h ∙ (ap (λ z. take i xs ++ z) s ∙ (sym (append_assoc (take i xs) (x ∷ []) (plain_of (drop (i + 1) xs)))
    ∙ ap (λ z. z ++ plain_of (drop (i + 1) xs)) (sym (one_more xs i l))))
  where
    one_more : (xs : List ℕ) (i : ℕ) → i < length xs → take (i + 1) xs ≡ take i xs ++ (get_or xs i 0 ∷ [])
    one_more [] i l = absurd (omega (arith, l))
    one_more (x ∷ xs) zero l = refl
    one_more (x ∷ xs) (suc i) l = let e : suc i + 1 ≡ suc (i + 1) = omega arith in
        rw e (ap (λ z. x ∷ z) (one_more xs i (omega (arith, l))))

-- what is added for it
pub plain_more : (xs : List ℕ) (i n : ℕ) (goal out more : List ℕ) → IsFirstControl xs i → n ≡ control_size (drop i xs)
    → out ++ plain_of xs ≡ goal
    → more ≡ (out ++ take i xs) ++ flat_map escaped (take n (drop i xs)) → more ++ plain_of (drop (i + n) xs) ≡ goal
plain_more xs i n goal out more h s e f =
    let ys = drop i xs in
    let t = take i xs in
    let b : plain_of ys ≡ flat_map escaped (take n ys) ++ plain_of (drop n ys) = rw s (control_begins ys h.there) in
    let d : drop (i + n) xs ≡ drop n ys = dropped i n xs in
    let m = flat_map escaped (take n ys) in
    let g : more ++ plain_of (drop (i + n) xs) ≡ ((out ++ t) ++ m)
    ++ plain_of (drop n ys) =
    ap (λ z. z ++ plain_of (drop (i + n) xs)) f ∙ ap (λ z. ((out ++ t) ++ m) ++ plain_of z) d in
    let k : ((out ++ t) ++ m) ++ plain_of (drop n ys) ≡ out ++ (t ++ (m ++ plain_of (drop n ys))) = simp append_assoc in
    g ∙ (k ∙ (ap (λ z. out ++ (t ++ z)) (sym b) ∙ (ap (λ z. out ++ z) (sym h.plain) ∙ e)))
  where
    dropped : (i n : ℕ) (xs : List ℕ) → drop (i + n) xs ≡ drop n (drop i xs)
    dropped i n xs = grind (arith, drop-drop)

pub plain_end : (xs goal out last : List ℕ) → plain_of xs ≡ xs → out ++ plain_of xs ≡ goal → last ≡ out ++ xs
    → last ≡ goal
plain_end xs goal out last h e f = f ∙ (ap (λ z. out ++ z) (sym h) ∙ e)

-- its bytes are of the text, and end a character
fits_by : (x y : Bool) (n : ℕ) → size_by x y ≤ suc (suc n)
fits_by true y n = omega arith
fits_by false true n = omega arith
fits_by false false n = omega arith

fits_alone : (x y : Bool) → y ≡ false → size_by x y ≤ 1
fits_alone true y e = omega arith
fits_alone false true e = absurd cc
fits_alone false false e = omega arith

fits : (xs : List ℕ) → control_size xs ≤ length xs
fits [] = omega arith
fits (a ∷ []) = fits_alone (is_control a) (is_late_control a 0) (alone a)
fits (a ∷ b ∷ xs) = fits_by (is_control a) (is_late_control a b) (length xs)

pub size_fits : (xs : List ℕ) (i n : ℕ) → i < length xs → n ≡ control_size (drop i xs) → i + n ≤ length xs
size_fits xs i n l e = let f = fits (drop i xs) in let d = length-drop i xs in omega (arith, l, e, f, d)

-- the first byte is below 128 where there is one, and 194 where there are two
low : (a : ℕ) → is_control a ≡ true → a < 128
low a h = grind (arith, nat_tests)

high : (a b : ℕ) → is_late_control a b ≡ true → a ≡ 194
high a b h = grind (arith, nat_tests)

first_byte : (xs : List ℕ) → 0 < control_size xs
    → ((control_size xs ≡ 1) × (get_or xs 0 0 < 128)) ⊎ ((control_size xs ≡ 2) × (get_or xs 0 0 ≡ 194))
first_byte [] l = absurd (omega (arith, l))
first_byte (a ∷ xs) l = by (is_control a) (is_late_control a (get_or xs 0 0)) refl refl l
  where
    by : (x y : Bool) → is_control a ≡ x → is_late_control a (get_or xs 0 0) ≡ y → 0 < size_by x y
        → ((size_by x y ≡ 1) × (a < 128)) ⊎ ((size_by x y ≡ 2) × (a ≡ 194))
    by true y e f l = inl (refl, low a e)
    by false true e f l = inr (refl, high a (get_or xs 0 0) f)
    by false false e f l = absurd (omega (arith, l))

at_first : (xs : List ℕ) (i : ℕ) → i < length xs → get_or (drop i xs) 0 0 ≡ get_or xs i 0
at_first xs i l = ap (λ z. get_or z 0 0) (drop_step xs i (get_or xs i 0) (got xs i l))

pub begins_char : (xs : List ℕ) (i : ℕ) → i < length xs → 0 < control_size (drop i xs) → IsCharBoundary xs i
begins_char xs i l c = (omega (arith, l), λ m g. by m g (first_byte (drop i xs) c))
  where
    by : i < length xs → 128 ≤ get_or xs i 0
        → ((control_size (drop i xs) ≡ 1) × (get_or (drop i xs) 0 0 < 128))
        ⊎ ((control_size (drop i xs) ≡ 2) × (get_or (drop i xs) 0 0 ≡ 194))
        → 192 ≤ get_or xs i 0
    by m g (inl p) = (let e = at_first xs i l in let q = p.1 in omega (arith, e, q, g))
    by m g (inr p) = (let e = at_first xs i l in let q = p.1 in omega (arith, e, q, g))

-- a character whose first byte is 194 has two
head_of : (a b : ℕ) (xs ys : List ℕ) → a ∷ xs ≡ b ∷ ys → a ≡ b
head_of a b xs ys h = ap (λ z. get_or z 0 0) h

abbrev len_by : Bool → Bool → Bool → ℕ
len_by x y z = cond x 1 (cond y 2 (cond z 3 4))

two_bytes : (c : ℕ) (rest ys : List ℕ) → ◌≡◌ {A = List ℕ} (encode c ++ rest) (194 ∷ ys) → len_utf8 c ≡ 2
unfolding encode
two_bytes c rest ys h = by (ltb c 128) (ltb c 2048) (ltb c 65536) refl h
  where
    by : (x y z : Bool) → ltb c 128 ≡ x
        → cond x (c ∷ []) (cond y ((192 + c / 64) ∷ next c ∷ [])
        (cond z ((224 + c / 4096) ∷ next (c / 64) ∷ next c ∷ [])
        ((240 + c / 262144) ∷ next (c / 4096) ∷ next (c / 64) ∷ next c ∷ []))) ++ rest ≡ 194 ∷ ys
        → len_by x y z ≡ 2
    by true y z e h = (let s = head_of c 194 rest ys h in let l = ltb→lt c 128 (subst T (sym e) tt) in
        absurd (omega (arith, s, l)))
    by false true z e h = refl
    by false false true e h = (let s = head_of (224 + c / 4096) 194 _ ys h in absurd (omega (arith, s)))
    by false false false e h = (let s = head_of (240 + c / 262144) 194 _ ys h in absurd (omega (arith, s)))

after_two : (xs : List ℕ) (i : ℕ) (cs : List ℕ) → i < length xs → IsUtf8 (drop i xs) → encodes cs ≡ drop i xs
    → drop i xs ≡ 194 ∷ drop (i + 1) xs → IsCharBoundary xs (i + 2)
after_two xs i [] l u e d = absurd cc
after_two xs i (c ∷ cs) l u e d =
    let n = two_bytes c (encodes cs) (drop (i + 1) xs) (e ∙ d) in
    subst (λ k. IsCharBoundary xs (i + k)) n (IsCharBoundary-past_char xs (encodes cs) i c (omega (arith, l)) u (sym e))

pub ends_char : (xs : List ℕ) (i n : ℕ) → IsUtf8 xs → i < length xs → 0 < control_size (drop i xs)
    → n ≡ control_size (drop i xs) → IsCharBoundary xs (i + n)
ends_char xs i n u l c s = by (first_byte (drop i xs) c)
  where
    by : ((control_size (drop i xs) ≡ 1) × (get_or (drop i xs) 0 0 < 128))
        ⊎ ((control_size (drop i xs) ≡ 2) × (get_or (drop i xs) 0 0 ≡ 194))
        → IsCharBoundary xs (i + n)
    by (inl p) =
        (let e = at_first xs i l in
        let q = p.1 in
        let m : 1 ≡ n = sym (s ∙ p.0) in
        subst (λ k. IsCharBoundary xs (i + k)) m (IsCharBoundary-after_ascii xs i u l (omega (arith, e, q))))
    by (inr p) =
        (let v = IsUtf8-drop xs i u (begins_char xs i l c) in
        let x : get_or xs i 0 ≡ 194 = sym (at_first xs i l) ∙ p.1 in
        let d : drop i xs ≡ 194 ∷ drop (i + 1) xs = drop_step xs i (get_or xs i 0) (got xs i l)
        ∙ ap (λ z. z ∷ drop (i + 1) xs) x in
        let m : 2 ≡ n = sym (s ∙ p.0) in
        subst (λ k. IsCharBoundary xs (i + k)) m (after_two xs i v.0 l v v.1.1 d))
