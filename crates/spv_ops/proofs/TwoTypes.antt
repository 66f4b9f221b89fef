-- An operation of two operands that have the type of its result.
use Rattle.std.proofs.Common.{◌≡◌, ℕ, List, [], ◌∷◌, Option, Some, None, true, nat_eq}
use Rattle.std.specs.Prelude.{IsSomeAnd, option_and_then, option_map}
use Rattle.std.proofs.lemmas.Bool.{eqb-true, eq-eqb}
use Rattle.spv_module.specs.Operand.{PlainInst}
use Rattle.spv_module.specs.Width.{type_of}
use Rattle.spv_type_forms.specs.declared.form.Sort.{Sort}
use Rattle.spv_type_forms.specs.Types.{HasSort}
use Rattle.spv_ops.specs.inner.Common.{Combines}
use Rattle.spv_type_forms.specs.inner.Tests.{passes, has_type}
use Rattle.spv_type_forms.specs.Values.{types_of}

abbrev both_of : Option ℕ → Option ℕ → Option (List ℕ)
both_of o p = option_and_then (λ t. option_map (λ ts. t ∷ ts)
    (option_and_then (λ u. option_map (λ us. u ∷ us) (Some [])) p)) o

calculated : (is : List PlainInst) (s : Sort) (r : ℕ) (o p : Option ℕ) → passes (λ u. nat_eq u r) o ≡ true
    → passes (λ u. nat_eq u r) p ≡ true → HasSort s is r
    → IsSomeAnd (both_of o p) (Combines is s r)
calculated is s r None p a b h = cc
calculated is s r (Some t) None a b h = cc
calculated is s r (Some t) (Some u) a b h = (eqb-true t r a, eqb-true u r b, h)

given : (is : List PlainInst) (s : Sort) (r : ℕ) (o p : Option ℕ) → IsSomeAnd (both_of o p) (Combines is s r)
    → (passes (λ u. nat_eq u r) o ≡ true) × (passes (λ u. nat_eq u r) p ≡ true) × HasSort s is r
given is s r None p c = absurd c
given is s r (Some t) None c = absurd c
given is s r (Some t) (Some u) c = (eq-eqb t r c.0, eq-eqb u r c.1, c.2)

pub two_calculated : (is : List PlainInst) (s : Sort) (r a b : ℕ) → has_type is r a ≡ true → has_type is r b ≡ true
    → HasSort s is r
    → IsSomeAnd (types_of is (a ∷ b ∷ [])) (Combines is s r)
two_calculated is s r a b x y h = calculated is s r (type_of is a) (type_of is b) x y h

pub two_given : (is : List PlainInst) (s : Sort) (r a b : ℕ) → IsSomeAnd (types_of is (a ∷ b ∷ [])) (Combines is s r)
    → (has_type is r a ≡ true) × (has_type is r b ≡ true) × HasSort s is r
two_given is s r a b c = given is s r (type_of is a) (type_of is b) c
