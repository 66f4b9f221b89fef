-- Facts on small lists.
use Rattle.std.proofs.Common.{◌≡◌, ◌+◌, ◌++◌, ◌∙◌, ℕ, zero, suc, List, [], ◌∷◌, Bool, true, false, ◌&&◌, refl, ap}
use Rattle.std.proofs.Common.{arith}
use Rattle.std.proofs.Common.{Some, drop, take, length, ◌==◌}
use Rattle.std.specs.Prelude.{IsAscii, nat_lt, slice_get}
use Rattle.std.proofs.Common.{map}
use Rattle.spv_module.specs.declared.module.Inst.{Inst}
use Rattle.spv_module.specs.Module.{plain_inst}
use Rattle.spv_lines.specs.Text.{lines_of}
use Rattle.std.specs.List.{flat_map, list_all, range_with_len}
use Rattle.std.proofs.lemmas.Bool.Decides.{nat_tests}
use Rattle.std.proofs.lemmas.Grind.{flat_map-append}

pub both : (a b : Bool) → (a && b) ≡ true → (a ≡ true) × (b ≡ true)
both true b h = (refl, h)
both false b h = cc

pub ascii_by : (xs : List ℕ) → list_all (λ b. nat_lt b 128) xs ≡ true → IsAscii xs
ascii_by [] h i = omega arith
ascii_by (b ∷ xs) h zero = let r = both (nat_lt b 128) (list_all (λ b. nat_lt b 128) xs) h in let e = r.0 in
    grind (arith, nat_tests)
ascii_by (b ∷ xs) h (suc i) = ascii_by xs (both (nat_lt b 128) (list_all (λ b. nat_lt b 128) xs) h).1 i

-- one number more
pub range_more : (a n : ℕ) → range_with_len a (n + 1) ≡ range_with_len a n ++ ((a + n) ∷ [])
range_more a zero = let e : a ≡ a + 0 = omega arith in ap (λ z. z ∷ []) e
range_more a (suc n) =
    let m : suc n + 1 ≡ suc (n + 1) = omega arith in
    let s : (a + 1) + n ≡ a + suc n = omega arith in
    rw m (ap (λ z. a ∷ z) (range_more (a + 1) n ∙ ap (λ z. range_with_len (a + 1) n ++ (z ∷ [])) s))

nothing_behind : (xs : List ℕ) → xs ++ [] ≡ xs
nothing_behind [] = refl
nothing_behind (x ∷ xs) = ap (λ ys. x ∷ ys) (nothing_behind xs)

pub flat_range_more : {A : Type 0} (f : ℕ → List A) (n : ℕ)
    → flat_map f (range_with_len 0 (n + 1)) ≡ flat_map f (range_with_len 0 n) ++ f n
flat_range_more {A} f n =
    let z : 0 + n ≡ n = omega arith in
    ap (flat_map f) (range_more 0 n) ∙ (flat_map-append f (range_with_len 0 n) ((0 + n) ∷ [])
    ∙ ap (λ k. flat_map f (range_with_len 0 n) ++ k) (ap (λ k. f k ++ []) z ∙ all (f n)))
  where
    all : (xs : List A) → xs ++ [] ≡ xs
    all [] = refl
    all (x ∷ xs) = ap (λ ys. x ∷ ys) (all xs)

-- Parts of lists.

pub zero_by : (n : ℕ) → (n == 0) ≡ true → n ≡ 0
zero_by n e = grind (arith, nat_tests)

pub drop_head : {A : Type 0} (k : ℕ) (xs ys : List A) (x : A) → drop k xs ≡ x ∷ ys → slice_get xs k ≡ Some x
drop_head zero [] ys x e = absurd cc
drop_head zero (z ∷ xs) ys x e = let f : z ≡ x = cc in ap Some f
drop_head (suc k) [] ys x e = absurd cc
drop_head (suc k) (z ∷ xs) ys x e = drop_head k xs ys x e

pub drop_tail : {A : Type 0} (k : ℕ) (xs ys : List A) (x : A) → drop k xs ≡ x ∷ ys → drop (k + 1) xs ≡ ys
drop_tail zero [] ys x e = absurd cc
drop_tail zero (z ∷ xs) ys x e = cc
drop_tail (suc k) [] ys x e = absurd cc
drop_tail (suc k) (z ∷ xs) ys x e = let n : suc k + 1 ≡ suc (k + 1) = omega arith in rw n (drop_tail k xs ys x e)

pub take_tail : {A : Type 0} (k : ℕ) (xs ys : List A) (x : A) → drop k xs ≡ x ∷ ys
    → take (k + 1) xs ≡ take k xs ++ (x ∷ [])
take_tail zero [] ys x e = absurd cc
take_tail zero (z ∷ xs) ys x e = let f : z ≡ x = cc in ap (λ w. w ∷ []) f
take_tail (suc k) [] ys x e = absurd cc
take_tail (suc k) (z ∷ xs) ys x e =
    let n : suc k + 1 ≡ suc (k + 1) = omega arith in rw n (ap (λ w. z ∷ w) (take_tail k xs ys x e))

-- so many pieces more
pub flat_tail : {A B : Type 0} (f : A → List B) (k : ℕ) (xs ys : List A) (x : A) → drop k xs ≡ x ∷ ys
    → flat_map f (take (k + 1) xs) ≡ flat_map f (take k xs) ++ f x
flat_tail {A} {B} f k xs ys x e =
    ap (flat_map f) (take_tail k xs ys x e)
    ∙ (flat_map-append f (take k xs) (x ∷ []) ∙ ap (λ z. flat_map f (take k xs) ++ z) (all (f x)))
  where
    all : (zs : List B) → zs ++ [] ≡ zs
    all [] = refl
    all (z ∷ zs) = ap (λ ys. z ∷ ys) (all zs)

pub no_lines : (t : List ℕ) → length t ≡ 0 → lines_of t ≡ []
no_lines [] e = refl
no_lines (b ∷ t) e = absurd cc

pub plain_length : (insts : List Inst) → length (map plain_inst insts) ≡ length insts
plain_length [] = refl
plain_length (i ∷ insts) = ap (λ n. suc n) (plain_length insts)
