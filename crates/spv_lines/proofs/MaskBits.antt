-- The bits of a mask, one position after the other.
use Rattle.std.proofs.Common.{◌≡◌, ◌≢◌, ◌++◌, ◌∙◌, ◌<◌, ◌≤◌, ◌+◌, ◌-◌, ◌*◌, ◌/◌, ◌%◌, ◌^◌, ℕ, zero, suc, List, [], ◌∷◌}
use Rattle.std.proofs.Common.{Bool, true, false, nat_eq, refl, sym, ap, arith, append-nil}
use Rattle.std.specs.Prelude.{if◌then◌else◌}
use Rattle.std.specs.List.{filter}
use Rattle.std.proofs.Math.Nat.{pow-succ', div-div-eq-div-mul, add-mul-div_left}
use Rattle.std.proofs.lemmas.Bool.Decides.{nat_tests}
use Rattle.spv_module.specs.Spelling.{bits_from, set_bits}

-- is a bit of a mask set
abbrev pub is_set : ℕ → ℕ → Bool
is_set x b = nat_eq (x / b % 2) 1

-- the set bits among so many from a bit up
abbrev pub bits_in : ℕ → ℕ → ℕ → List ℕ
bits_in n b x = filter (λ b. nat_eq (x / b % 2) 1) (bits_from n b)

bits_split : (a n b : ℕ) → bits_from (a + n) b ≡ bits_from a b ++ bits_from n (b * 2 ^ a)
bits_split zero n b = let e : zero + n ≡ n = omega arith in let f : b * 2 ^ zero ≡ b = omega arith in rw (e, f) refl
bits_split (suc a) n b =
    let e : suc a + n ≡ suc (a + n) = omega arith in
    let p = pow-succ' 2 a in
    let f : b * 2 ^ suc a ≡ (2 * b) * 2 ^ a = rw p (times b (2 ^ a)) in
    rw (e, f) (ap (λ z. b ∷ z) (bits_split a n (2 * b)))
  where
    times : (b w : ℕ) → b * (2 * w) ≡ (2 * b) * w
    times b w = let e = Rattle.std.proofs.Math.Nat.mul_assoc b 2 w in let f : b * 2 ≡ 2 * b = omega arith in
        sym e ∙ ap (λ z. z * w) f

filter_append : (f : ℕ → Bool) (xs ys : List ℕ) → filter f (xs ++ ys) ≡ filter f xs ++ filter f ys
filter_append f [] ys = refl
filter_append f (x ∷ xs) ys = step (f x) (filter_append f xs ys)
  where
    step : (t : Bool) → filter f (xs ++ ys) ≡ filter f xs ++ filter f ys
        → (if t then x ∷ filter f (xs ++ ys) else filter f (xs ++ ys)) ≡ (if t then x ∷ filter f xs else filter f xs)
        ++ filter f ys
    step true e = ap (λ z. x ∷ z) e
    step false e = e

is_one : (m : ℕ) → m % 2 ≡ 1 → nat_eq (m % 2) 1 ≡ true
is_one m h = grind (arith, nat_tests)

is_nought : (m : ℕ) → m ≡ 0 → nat_eq (m % 2) 1 ≡ false
is_nought m h = rw h refl

-- a higher bit changes no lower one
bit_kept : (m b v w : ℕ) → 0 < b → v ≡ b * (2 * w) → is_set (m + v) b ≡ is_set m b
bit_kept m b v w h e =
    let f : (m + v) / b ≡ m / b + 2 * w = rw e (add-mul-div_left m (2 * w) h) in
    let g : (m / b + 2 * w) % 2 ≡ m / b % 2 = omega arith in
    ap (λ z. nat_eq (z % 2) 1) f ∙ ap (λ z. nat_eq z 1) g

kept_below : (a b m v : ℕ) → 0 < b → v ≡ b * 2 ^ a → bits_in a b (m + v) ≡ bits_in a b m
kept_below zero b m v h e = refl
kept_below (suc a) b m v h e =
    let p = pow-succ' 2 a in
    let f : v ≡ b * (2 * 2 ^ a) = rw p at e in
    let g : v ≡ (2 * b) * 2 ^ a = f ∙ times b (2 ^ a) in
    let k = bit_kept m b v (2 ^ a) h f in
    let j = kept_below a (2 * b) m v (omega arith) g in
    rw (k, j) refl
  where
    times : (b w : ℕ) → b * (2 * w) ≡ (2 * b) * w
    times b w = let e = Rattle.std.proofs.Math.Nat.mul_assoc b 2 w in let f : b * 2 ≡ 2 * b = omega arith in
        sym e ∙ ap (λ z. z * w) f

halved : (mask b : ℕ) → mask / b ≡ 0 → mask / (2 * b) ≡ 0
halved mask b h =
    let e = div-div-eq-div-mul mask b 2 in
    let f : mask / b / 2 ≡ 0 = rw h refl in
    let g : b * 2 ≡ 2 * b = omega arith in
    rw (← g) (sym e ∙ f)

none_left : (mask n b : ℕ) → mask / b ≡ 0 → bits_in n b mask ≡ []
none_left mask zero b h = refl
none_left mask (suc n) b h =
    let e : nat_eq (mask / b % 2) 1 ≡ false = rw h refl in
    rw e (none_left mask n (2 * b) (halved mask b h))

power_some : (p : ℕ) → 0 < 2 ^ p
power_some p = Rattle.std.proofs.lemmas.Nat.pow_pos p

below_none : (m b : ℕ) → 0 < b → m < b → m / b ≡ 0
below_none m b h g = Rattle.std.proofs.Math.Nat.div-eq_of_lt g

-- the bits below a position, one position more
bits_more : (p x : ℕ) → bits_in (p + 1) 1 x ≡ bits_in p 1 x ++ (if is_set x (2 ^ p) then 2 ^ p ∷ [] else [])
bits_more p x =
    let one : 1 * 2 ^ p ≡ 2 ^ p = omega arith in
    let s : bits_from (p + 1) 1 ≡ bits_from p 1 ++ (2 ^ p ∷ []) = rw one at (bits_split p 1 1) in
    ap (filter (λ b. nat_eq (x / b % 2) 1)) s ∙ filter_append (λ b. nat_eq (x / b % 2) 1) (bits_from p 1) (2 ^ p ∷ [])

pub clear_more : (p m : ℕ) → m < 2 ^ p → bits_in (p + 1) 1 m ≡ bits_in p 1 m
clear_more p m h =
    let z = below_none m (2 ^ p) (power_some p) h in
    let f : is_set m (2 ^ p) ≡ false = rw z refl in
    bits_more p m ∙ (let g : bits_in p 1 m ++ (if is_set m (2 ^ p) then 2 ^ p ∷ [] else []) ≡ bits_in p 1 m
    ++ [] = rw f refl in g ∙ append-nil (bits_in p 1 m))

one_whole : (m b : ℕ) → 0 < b → m < b → (m + b) / b ≡ 1
one_whole m b h g =
    let e : m + b ≡ m + b * 1 = omega arith in
    let f : (m + b) / b ≡ m / b + 1 = rw e (add-mul-div_left m 1 h) in
    let z = below_none m b h g in
    f ∙ ap (λ y. y + 1) z

pub set_more : (p m : ℕ) → m < 2 ^ p → bits_in (p + 1) 1 (m + 2 ^ p) ≡ bits_in p 1 m ++ (2 ^ p ∷ [])
set_more p m h =
    let one : 2 ^ p ≡ 1 * 2 ^ p = omega arith in
    let k = kept_below p 1 m (2 ^ p) (omega arith) one in
    let w = one_whole m (2 ^ p) (power_some p) h in
    let f : is_set (m + 2 ^ p) (2 ^ p) ≡ true = rw w refl in
    bits_more p (m + 2 ^ p) ∙ rw (k, f) refl

-- all the bits of a mask are below a position
pub all_below : (p x : ℕ) → p ≤ 32 → x < 2 ^ p → set_bits x ≡ bits_in p 1 x
all_below p x h g =
    let n : 32 ≡ p + (32 - p) = omega arith in
    let one : 1 * 2 ^ p ≡ 2 ^ p = omega arith in
    let s : bits_from 32 1 ≡ bits_from p 1 ++ bits_from (32 - p) (2 ^ p) = ap (λ k. bits_from k 1) n
    ∙ (rw one at (bits_split p (32 - p) 1)) in
    let z = none_left x (32 - p) (2 ^ p) (below_none x (2 ^ p) (power_some p) g) in
    ap (filter (λ b. nat_eq (x / b % 2) 1)) s
    ∙ (filter_append (λ b. nat_eq (x / b % 2) 1) (bits_from p 1) (bits_from (32 - p) (2 ^ p))
    ∙ (ap (λ z. bits_in p 1 x ++ z) z ∙ append-nil (bits_in p 1 x)))

pub doubled : (p m : ℕ) → m < 2 ^ p → m + 2 ^ p < 2 ^ (p + 1)
doubled p m h = let e : p + 1 ≡ suc p = omega arith in let f = pow-succ' 2 p in rw (e, f) (omega arith)

pub grown : (p m : ℕ) → m < 2 ^ p → m < 2 ^ (p + 1)
grown p m h = let e : p + 1 ≡ suc p = omega arith in let f = pow-succ' 2 p in rw (e, f) (omega arith)

pub fits_word : (p m : ℕ) → p < 32 → m < 2 ^ p → m + 2 ^ p < 2 ^ 32
fits_word p m l h =
    let d = doubled p m h in
    let e : p + 1 ≤ 32 = omega arith in
    let f = Rattle.std.proofs.Math.Nat.pow-le-pow_right {n = 2} (omega arith) e in
    omega (arith, f)

-- the bits from a position up
upper : (p x : ℕ) → p < 32
    → bits_in (32 - p) (2 ^ p) x ≡ (if is_set x (2 ^ p) then 2 ^ p
    ∷ bits_in (32 - (p + 1)) (2 ^ (p + 1)) x else bits_in (32 - (p + 1)) (2 ^ (p + 1)) x)
upper p x h =
    let n : 32 - p ≡ suc (32 - (p + 1)) = omega arith in
    let e : p + 1 ≡ suc p = omega arith in
    let f : 2 ^ (p + 1) ≡ 2 * 2 ^ p = rw e (pow-succ' 2 p) in
    rw (n, f) refl

no_cell : (y : ℕ) (ys : List ℕ) → [] ≡ y ∷ ys → ⊥
no_cell y ys e = cc

-- no bit from a bit up is a smaller number
at_least : (n b x y : ℕ) (ys : List ℕ) → y < b → bits_in n b x ≡ y ∷ ys → ⊥
at_least zero b x y ys h e = no_cell y ys e
at_least (suc n) b x y ys h e = by (is_set x b) refl (λ f. at_least n (2 * b) x y ys (omega arith) f)
  where
    by : (t : Bool) → is_set x b ≡ t → (bits_in n (2 * b) x ≡ y ∷ ys → ⊥) → ⊥
    by true f later =
        let g : b ∷ bits_in n (2 * b) x ≡ y ∷ ys = rw f at e in
        let k : b ≡ y = cc in
        omega arith
    by false f later =
        let g : bits_in n (2 * b) x ≡ y ∷ ys = rw f at e in
        later g

-- the least bit from a position up is that of a later one
pub later_bit : (p x y : ℕ) (ys : List ℕ) → p < 32 → y ≢ 2 ^ p → bits_in (32 - p) (2 ^ p) x ≡ y ∷ ys
    → bits_in (32 - (p + 1)) (2 ^ (p + 1)) x ≡ y ∷ ys
later_bit p x y ys h n e = step (is_set x (2 ^ p)) refl (sym (upper p x h) ∙ e)
  where
    step : (t : Bool) → is_set x (2 ^ p) ≡ t
        → (if is_set x (2 ^ p) then 2 ^ p ∷ bits_in (32 - (p + 1)) (2 ^ (p + 1)) x else bits_in (32 - (p + 1))
        (2 ^ (p + 1)) x) ≡ y ∷ ys → bits_in (32 - (p + 1)) (2 ^ (p + 1)) x ≡ y ∷ ys
    step true f g = let k : 2 ^ p ∷ bits_in (32 - (p + 1)) (2 ^ (p + 1)) x ≡ y ∷ ys = rw f at g in
        let i : 2 ^ p ≡ y = cc in absurd (n (sym i))
    step false f g = rw f at g

-- it is that of the position
pub this_bit : (p x : ℕ) (ys : List ℕ) → p < 32 → bits_in (32 - p) (2 ^ p) x ≡ 2 ^ p ∷ ys
    → bits_in (32 - (p + 1)) (2 ^ (p + 1)) x ≡ ys
this_bit p x ys h e = step (is_set x (2 ^ p)) refl (sym (upper p x h) ∙ e)
  where
    less : 2 ^ p < 2 ^ (p + 1)
    less = let a = power_some p in let e : p + 1 ≡ suc p = omega arith in let f = pow-succ' 2 p in
        rw (e, f) (omega arith)

    step : (t : Bool) → is_set x (2 ^ p) ≡ t
        → (if is_set x (2 ^ p) then 2 ^ p ∷ bits_in (32 - (p + 1)) (2 ^ (p + 1)) x else bits_in (32 - (p + 1))
        (2 ^ (p + 1)) x) ≡ 2 ^ p ∷ ys → bits_in (32 - (p + 1)) (2 ^ (p + 1)) x ≡ ys
    step true f g = let k : 2 ^ p ∷ bits_in (32 - (p + 1)) (2 ^ (p + 1)) x ≡ 2 ^ p ∷ ys = rw f at g in cc
    step false f g = let k : bits_in (32 - (p + 1)) (2 ^ (p + 1)) x ≡ 2 ^ p ∷ ys = rw f at g in
        absurd (at_least (32 - (p + 1)) (2 ^ (p + 1)) x (2 ^ p) ys less k)

pub none_above : (p x y : ℕ) (ys : List ℕ) → 32 ≤ p → bits_in (32 - p) (2 ^ p) x ≡ y ∷ ys → ⊥
none_above p x y ys h e =
    let n : 32 - p ≡ 0 = omega arith in
    let f : [] ≡ y ∷ ys = rw n at e in
    no_cell y ys f
