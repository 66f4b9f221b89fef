-- What stands before a space, and numbers behind a mark: decided.
use Rattle.std.proofs.Common.{◌≡◌, ◌≢◌, ◌++◌, ◌⊎◌, inl, inr, ◌<◌, ◌≤◌, ◌^◌, ℕ, List, [], ◌∷◌, Bool, true, false, refl}
use Rattle.std.proofs.Common.{sym, ap, arith}
use Rattle.std.specs.Prelude.{decimal}
use Rattle.std.specs.List.{AllByRecursion}
use Rattle.std.proofs.lemmas.Bool.Decides.{nat_tests}
use Rattle.spv_lines.specs.Digits.{is_number, value, IsLarge}
use Rattle.spv_lines.specs.Refusal.{IsBreak, at_end, at_space}
use Rattle.spv_lines.proofs.Tame.{Both, AreTame}
use Rattle.spv_lines.proofs.Numbers.{number_decimal}

pub three_ways : (a b : ℕ) → (a < b) ⊎ ((a ≡ b) ⊎ (b < a))
three_ways a b = grind (arith, nat_tests)

pub below_or_not : (a b : ℕ) → (a < b) ⊎ (b ≤ a)
below_or_not a b = grind (arith, nat_tests)

pub same_or_not : (a b : ℕ) → (a ≡ b) ⊎ (a ≢ b)
same_or_not a b = step (three_ways a b)
  where
    step : (a < b) ⊎ ((a ≡ b) ⊎ (b < a)) → (a ≡ b) ⊎ (a ≢ b)
    step (inl l) = inr (λ e. omega arith)
    step (inr (inl e)) = inl e
    step (inr (inr l)) = inr (λ e. omega arith)

pub true_or_false : (b : Bool) → (b ≡ true) ⊎ (b ≡ false)
true_or_false true = inl refl
true_or_false false = inr refl

pub true_not_false : (b : Bool) → b ≡ true → b ≡ false → ⊥
true_not_false b e f = cc

pub lists_same_or_not : (xs ys : List ℕ) → (xs ≡ ys) ⊎ (xs ≢ ys)
lists_same_or_not [] [] = inl refl
lists_same_or_not [] (y ∷ ys) = inr (λ e. cc)
lists_same_or_not (x ∷ xs) [] = inr (λ e. cc)
lists_same_or_not (x ∷ xs) (y ∷ ys) = step (same_or_not x y) (lists_same_or_not xs ys)
  where
    step : (x ≡ y) ⊎ (x ≢ y) → (xs ≡ ys) ⊎ (xs ≢ ys) → (x ∷ xs ≡ y ∷ ys) ⊎ (x ∷ xs ≢ y ∷ ys)
    step (inl e) (inl f) = inl cc
    step (inl e) (inr f) = inr (λ g. let h : xs ≡ ys = cc in f h)
    step (inr e) g = inr (λ h. let i : x ≡ y = cc in e i)

-- no space
abbrev pub NoSpace : List ℕ → Type 0
NoSpace t = AllByRecursion (λ b. b ≢ 32) t

pub tame_spaceless : (t : List ℕ) → AreTame t → NoSpace t
tame_spaceless [] h = tt
tame_spaceless (b ∷ t) h = let l = h.0 in ((λ e. omega arith), tame_spaceless t h.1)

-- the token and what is behind it
pub record Token (u : List ℕ) : Type 0 where
  pub token : List ℕ
  pub rest : List ℕ
  pub all : u ≡ token ++ rest
  pub spaceless : NoSpace token
  pub broken : IsBreak rest

pub token_of : (u : List ℕ) → Token u
token_of [] = record { token = []; rest = []; all = refl; spaceless = tt; broken = at_end }
token_of (b ∷ u) = step (same_or_not b 32) (token_of u)
  where
    step : (b ≡ 32) ⊎ (b ≢ 32) → Token u → Token (b ∷ u)
    step (inl e) k = record { token = []; rest = b ∷ u; all = refl; spaceless = tt; broken = rw e (at_space u) }
    step (inr n) k = record {
      token = b ∷ k.token;
      rest = k.rest;
      all = ap (λ z. b ∷ z) k.all;
      spaceless = (n, k.spaceless);
      broken = k.broken;
    }

pub whole_same : (a b t u : List ℕ) → NoSpace a → NoSpace b → IsBreak t → IsBreak u → a ++ t ≡ b ++ u
    → Both (a ≡ b) (t ≡ u)
whole_same [] [] t u h g i j e = record { first = refl; second = e }
whole_same [] (y ∷ b) _ u h g at_end j e = cc
whole_same [] (y ∷ b) _ u h g (at_space t) j e = let z : 32 ≡ y = cc in absurd (g.0 (sym z))
whole_same (x ∷ a) [] t _ h g i at_end e = cc
whole_same (x ∷ a) [] t _ h g i (at_space u) e = let z : x ≡ 32 = cc in absurd (h.0 z)
whole_same (x ∷ a) (y ∷ b) t u h g i j e =
    let z : x ≡ y = cc in
    let f : a ++ t ≡ b ++ u = cc in
    let r = whole_same a b t u h.1 g.1 i j f in
    let k = r.first in
    record { first = cc; second = r.second }

-- a number behind nothing or behind a mark
pub data Decimals (limit : ℕ) (a : List ℕ) : Type 0 where
  fits : (x : ℕ) → x < limit → a ≡ decimal x → Decimals limit a
  large : IsLarge limit a → Decimals limit a
  none : (is_number a ≡ true → ⊥) → Decimals limit a

pub decimals : (limit : ℕ) (a : List ℕ) → limit ≤ 2 ^ 64 → Decimals limit a
decimals limit a h = step (true_or_false (is_number a)) (below_or_not (value a) limit)
  where
    step : (is_number a ≡ true) ⊎ (is_number a ≡ false) → (value a < limit) ⊎ (limit ≤ value a) → Decimals limit a
    step (inl e) (inl l) = Decimals.fits (value a) l (sym (number_decimal a e (omega arith)))
    step (inl e) (inr l) = Decimals.large (record { number = e; large = l })
    step (inr e) k = Decimals.none (λ f. true_not_false (is_number a) f e)

pub data Marked (mark limit : ℕ) (a : List ℕ) : Type 0 where
  fits : (x : ℕ) → x < limit → a ≡ mark ∷ decimal x → Marked mark limit a
  large : (ds : List ℕ) → a ≡ mark ∷ ds → IsLarge limit ds → Marked mark limit a
  none : ((ds : List ℕ) → a ≡ mark ∷ ds → is_number ds ≡ true → ⊥) → Marked mark limit a

pub marked : (mark limit : ℕ) (a : List ℕ) → limit ≤ 2 ^ 64 → Marked mark limit a
marked mark limit [] h = Marked.none (λ ds e f. cc)
marked mark limit (b ∷ a) h = step (same_or_not b mark) (decimals limit a h)
  where
    step : (b ≡ mark) ⊎ (b ≢ mark) → Decimals limit a → Marked mark limit (b ∷ a)
    step (inl e) (Decimals.fits x l f) = Marked.fits x l cc
    step (inl e) (Decimals.large l) = Marked.large a (ap (λ z. z ∷ a) e) l
    step (inl e) (Decimals.none n) = Marked.none (λ ds f g. let k : ds ≡ a = cc in n (rw (← k) g))
    step (inr n) k = Marked.none (λ ds f g. let i : b ≡ mark = cc in n i)
