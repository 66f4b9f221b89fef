-- Codes that are looked up by name.
use Rattle.std.proofs.Common.{◌≡◌, ◌∙◌, ◌<◌, ◌≤◌, ◌+◌, ℕ, List, length, Option, Some, None, refl, ap, sym, subst, inl, inr, arith}
use Rattle.std.specs.Prelude.{MatchOption, slice_get}
use Rattle.std.proofs.Math.Nat.{eq-or-lt_of_le}
use Rattle.std.proofs.lemmas.Option.{same_Some}
use Rattle.spv_rules.specs.Errors.{any_name, error_codes, error_name}
use Rattle.spv_rules.specs.Rules.{IsNamed, name_of}
use Rattle.spv_rules.specs.inner.Found.{IsErrorNamed}
use Rattle.spv_rules.specs.declared.errors.AnyCode.{AnyCode}
use Rattle.spv_rules.specs.declared.errors.AnyCode.TheVariants.{Verdict, Error}
use Rattle.spv_rules.specs.declared.errors.ErrorCode.{ErrorCode}
use Rattle.spv_rules.specs.declared.errors.ErrorCode.TheVariants as error
use Rattle.spv_rules.specs.declared.rules.Code.{Code}

-- one code more does not have the name
pub unnamed_more : (name : List ℕ) (place : ℕ) (this : ErrorCode) → slice_get error_codes place ≡ Some this → ¬ (IsNamed name (error_name this))
    → ((n : ℕ) (code : ErrorCode) → n < place → slice_get error_codes n ≡ Some code → ¬ (IsNamed name (error_name code)))
    → (n : ℕ) (code : ErrorCode) → n < place + 1 → slice_get error_codes n ≡ Some code → ¬ (IsNamed name (error_name code))
unnamed_more name place this at not before n code l g h =
    let within : n ≤ place = omega (arith, l) in
    elim (eq-or-lt_of_le within) [
      | inl e ↦
          let same : this ≡ code = same_Some this code (sym at ∙ ap (slice_get error_codes) (sym e) ∙ g) in
          not (subst (λ (c : ErrorCode). IsNamed name (error_name c)) (sym same) h)
      | inr b ↦ before n code b g h
    ]

-- no code of an error has a name that none of the list has
pub nameless_error : (name : List ℕ) → ((n : ℕ) (code : ErrorCode) → n < length error_codes → slice_get error_codes n ≡ Some code → ¬ (IsNamed name (error_name code)))
    → (code : ErrorCode) → ¬ (IsNamed name (error_name code))
nameless_error name none error.J1 = none 0 error.J1 (omega arith) refl
nameless_error name none error.J2 = none 1 error.J2 (omega arith) refl
nameless_error name none error.J3 = none 2 error.J3 (omega arith) refl
nameless_error name none error.J4 = none 3 error.J4 (omega arith) refl
nameless_error name none error.J5 = none 4 error.J5 (omega arith) refl
nameless_error name none error.J6 = none 5 error.J6 (omega arith) refl
nameless_error name none error.J7 = none 6 error.J7 (omega arith) refl
nameless_error name none error.J8 = none 7 error.J8 (omega arith) refl
nameless_error name none error.S1 = none 8 error.S1 (omega arith) refl
nameless_error name none error.S2 = none 9 error.S2 (omega arith) refl
nameless_error name none error.S3 = none 10 error.S3 (omega arith) refl
nameless_error name none error.S4 = none 11 error.S4 (omega arith) refl
nameless_error name none error.S5 = none 12 error.S5 (omega arith) refl
nameless_error name none error.S6 = none 13 error.S6 (omega arith) refl
nameless_error name none error.X1 = none 14 error.X1 (omega arith) refl
nameless_error name none error.X2 = none 15 error.X2 (omega arith) refl
nameless_error name none error.N1 = none 16 error.N1 (omega arith) refl
nameless_error name none error.N2 = none 17 error.N2 (omega arith) refl
nameless_error name none error.N3 = none 18 error.N3 (omega arith) refl

-- of any codes, where none of a verdict has the name
pub any_named : (name : List ℕ) (o : Option AnyCode) → ((code : Code) → ¬ (IsNamed name (name_of code))) → IsErrorNamed name o
    → MatchOption o ((code : AnyCode) → ¬ (IsNamed name (any_name code))) (λ code. IsNamed name (any_name code))
any_named name (Some (Error code)) none h = h
any_named name (Some (Verdict code)) none h = absurd h
any_named name None none h = unnamed
  where
    unnamed : (code : AnyCode) → ¬ (IsNamed name (any_name code))
    unnamed (Verdict code) = none code
    unnamed (Error code) = h code
