-- Tests that are true or false.
use Rattle.std.proofs.Common.{◌≡◌, ◌<◌, ◌≤◌, ◌⊎◌, ℕ, refl, inl, inr, Bool, true, false, Option, Some, None, arith}
use Rattle.std.proofs.Common.{nat_eq, nat_lt}
use Rattle.std.specs.Prelude.{◌&&◌, ◌||◌, MatchBool}
use Rattle.std.specs.Option.{is_some}
use Rattle.std.proofs.lemmas.Bool.Decides.{nat_tests}

pub and_first : (a b : Bool) → a && b ≡ true → a ≡ true
and_first true b h = refl
and_first false b h = cc

pub and_second : (a b : Bool) → a && b ≡ true → b ≡ true
and_second true b h = h
and_second false b h = cc

pub and_both : (a b : Bool) → a && b ≡ false → a ≡ true → b ≡ false
and_both true b h e = h
and_both false b h e = cc

pub or_either : (a b : Bool) → a || b ≡ true → (a ≡ true) ⊎ (b ≡ true)
or_either true b h = inl refl
or_either false b h = inr h

pub or_first : (a b : Bool) → a || b ≡ false → a ≡ false
or_first true b h = cc
or_first false b h = refl

pub or_second : (a b : Bool) → a || b ≡ false → b ≡ false
or_second true b h = cc
or_second false b h = h

pub eq_tells : (a b : ℕ) → nat_eq a b ≡ true → a ≡ b
eq_tells a b h = grind (arith, nat_tests)

pub ne_tells : (a b : ℕ) → nat_eq a b ≡ false → a ≡ b → ⊥
ne_tells a b h e = grind (arith, nat_tests)

pub eq_yes : (a b : ℕ) → a ≡ b → nat_eq a b ≡ true
eq_yes a b h = grind (arith, nat_tests)

pub eq_no : (a b : ℕ) → (a ≡ b → ⊥) → nat_eq a b ≡ false
eq_no a b h = grind (arith, nat_tests)

pub lt_tells : (a b : ℕ) → nat_lt a b ≡ true → a < b
lt_tells a b h = grind (arith, nat_tests)

pub ge_tells : (a b : ℕ) → nat_lt a b ≡ false → b ≤ a
ge_tells a b h = grind (arith, nat_tests)

pub some_tells : {A : Type 0} → (o : Option A) → is_some o ≡ true → o ≡ None → ⊥
some_tells None h e = cc
some_tells (Some a) h e = cc

pub none_tells : {A : Type 0} → (o : Option A) → is_some o ≡ false → o ≡ None
none_tells None h = refl
none_tells (Some a) h = cc

-- what an option is, where there is something
pub record Holds (o : Option ℕ) : Type 0 where
  pub value : ℕ
  pub is : o ≡ Some value

pub holds : (o : Option ℕ) → is_some o ≡ true → Holds o
holds None h = cc
holds (Some a) h = record { value = a; is = refl }

pub match_true : (P Q : Type 0) (b : Bool) → b ≡ true → MatchBool b P Q → P
match_true P Q true e h = h
match_true P Q false e h = cc

pub match_false : (P Q : Type 0) (b : Bool) → b ≡ false → MatchBool b P Q → Q
match_false P Q true e h = cc
match_false P Q false e h = h

pub false_true : false ≡ true → ⊥
false_true e = cc
