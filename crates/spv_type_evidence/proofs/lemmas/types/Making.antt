-- What a constant asks of its operands, all together, is what Y4 demands of it.
use Rattle.std.proofs.Common.{◌≡◌, ◌+◌, ◌↔◌, inl, inr, ℕ, zero, suc, List, [], ◌∷◌, Option, Some, None, Bool, true}
use Rattle.std.proofs.Common.{false, ◌&&◌, refl, ap, subst, option_and_then, arith}
use Rattle.std.specs.Prelude.{slice_get, IsTrue, IsSomeAnd}
use Rattle.std.proofs.lemmas.Bool.{eqb-true, eq-eqb}
use Rattle.spv_module.specs.Operand.{Plain, Word, Number, Value, PlainInst, type_in}
use Rattle.spv_module.specs.Width.{definition_of}
use Rattle.spv_type_kinds.specs.Operands.{ids_in, after_head}
use Rattle.spv_type_forms.specs.Parts.{part_of}
use Rattle.spv_type_forms.specs.Types.{IsNumber}
use Rattle.spv_type_forms.specs.inner.Tests.{are_same}
use Rattle.spv_type_rules.specs.declared.constant.Constant.{Constant}
use Rattle.spv_type_rules.specs.declared.constant.Constant.TheVariants as kind
use Rattle.spv_type_rules.specs.Constant.{is_part_opcode, FitsWidth, AreConstantParts, Constitutes}
use Rattle.spv_type_rules.specs.inner.Found.{is_typed_part, are_typed_parts}
use Rattle.spv_type_rules.proofs.Parted.{parts_told}
use Rattle.spv_type_evidence.specs.types.Constant.{IsPartOf, AsksParts, AsksOf, Asks}

and_both : (a b : Bool) → a && b ≡ true → (a ≡ true) × (b ≡ true)
and_both true b h = (refl, h)
and_both false b h = cc

and_yes : (a b : Bool) → a ≡ true → b ≡ true → a && b ≡ true
and_yes a b e f = rw (e, f) refl

same_told : (part t : Option ℕ) → (are_same part t ≡ true) ↔ IsSomeAnd part (λ u. t ≡ Some u)
same_told None t = (λ h. absurd (let no : false ≡ true = h in cc), λ h. absurd h)
same_told (Some u) None =
    (λ h. absurd (let no : false ≡ true = h in cc), λ h. absurd (let no : None ≡ Some u = h in cc))
same_told (Some u) (Some t) = (λ h. ap Some (eqb-true t u h), λ h. eq-eqb t u (let e : Some t ≡ Some u = h in cc))

-- one part
pub part_told : (spec : Bool) (part : Option ℕ) (o : Option PlainInst)
    → (is_typed_part spec part o ≡ true) ↔
    (IsSomeAnd o (λ d. IsTrue (is_part_opcode spec d.opcode))
    × IsSomeAnd part (λ t. option_and_then (λ i. type_in i.operands) o ≡ Some t))
part_told spec part None = (λ y. absurd (let no : false ≡ true = y in cc), λ p. absurd p.0)
part_told spec part (Some i) =
    let same = same_told part (type_in i.operands) in (
      λ y. let two = and_both (are_same part (type_in i.operands)) (is_part_opcode spec i.opcode) y in
          (two.1, same.0 two.0),
      λ p. and_yes (are_same part (type_in i.operands)) (is_part_opcode spec i.opcode) (same.1 p.1) p.0,
    )

-- the parts from k on
parts_from : (is : List PlainInst) (spec : Bool) (r k : ℕ) (xs : List ℕ) → are_typed_parts is spec r k xs ≡ true
    → (j x : ℕ) → slice_get xs j ≡ Some x → IsPartOf is spec r (k + j) x
parts_from is spec r k [] h j x e = cc
parts_from is spec r k (y ∷ ys) h zero x e =
    let two = and_both (is_typed_part spec (part_of is r k) (definition_of is y))
    (are_typed_parts is spec r (k + 1) ys) h in
    let same : y ≡ x = cc in
    let here : k + 0 ≡ k = omega arith in
    rw (← same, here) ((part_told spec (part_of is r k) (definition_of is y)).0 two.0)
parts_from is spec r k (y ∷ ys) h (suc j) x e =
    let two = and_both (is_typed_part spec (part_of is r k) (definition_of is y))
    (are_typed_parts is spec r (k + 1) ys) h in
    let next : k + suc j ≡ (k + 1) + j = omega arith in
    rw next (parts_from is spec r (k + 1) ys two.1 j x e)

from_parts : (is : List PlainInst) (spec : Bool) (r k : ℕ) (xs : List ℕ)
    → ((j x : ℕ) → slice_get xs j ≡ Some x → IsPartOf is spec r (k + j) x) → are_typed_parts is spec r k xs ≡ true
from_parts is spec r k [] h = refl
from_parts is spec r k (y ∷ ys) h =
    let here : k + 0 ≡ k = omega arith in
    let first : IsPartOf is spec r k y = subst (λ m. IsPartOf is spec r m y) here (h 0 y refl) in
    and_yes (is_typed_part spec (part_of is r k) (definition_of is y)) (are_typed_parts is spec r (k + 1) ys)
    ((part_told spec (part_of is r k) (definition_of is y)).1 first)
    (from_parts is spec r (k + 1) ys (λ j x e. let next : k + suc j ≡ (k + 1) + j = omega arith in
    subst (λ m. IsPartOf is spec r m x) next (h (suc j) x e)))

parts_ask : (is : List PlainInst) (spec : Bool) (r : ℕ) (xs : List ℕ) → AreConstantParts is spec r xs → (k : ℕ)
    → AsksParts is spec r xs k
parts_ask is spec r xs h k =
    let two = (parts_told is spec r xs).1 h in (
      λ e. two.1,
      λ j x e at. let here : 0 + j ≡ j = omega arith in
          subst (λ m. IsPartOf is spec r m x) here (parts_from is spec r 0 xs two.0 j x at),
    )

ask_parts : (is : List PlainInst) (spec : Bool) (r : ℕ) (xs : List ℕ) → ((k : ℕ) → AsksParts is spec r xs k)
    → AreConstantParts is spec r xs
ask_parts is spec r xs h =
    (parts_told is spec r xs).0 (
      from_parts is spec r 0 xs (λ j x at. let here : j ≡ 0 + j = omega arith in
          subst (λ m. IsPartOf is spec r m x) here ((h (2 + j)).1 j x refl at)),
      (h 0).0 refl,
    )

fits_number : (is : List PlainInst) (r low : ℕ) → FitsWidth is r low → IsNumber is r
fits_number is r low (w, inl i, f) = inl (w, i)
fits_number is r low (w, inr i, f) = inr (w, i)

constitutes_asks : (is : List PlainInst) (c : Constant) (r : ℕ) (os : List Plain) → Constitutes is c r os → (k : ℕ)
    → AsksOf is c r os k
constitutes_asks is kind.Bool r os h k = λ e. h
constitutes_asks is kind.Number r (Number low high words ∷ []) h k = (λ e. fits_number is r low h, λ e. h)
constitutes_asks is kind.Composite r os h k = parts_ask is false r (ids_in os) h k
constitutes_asks is kind.SpecComposite r os h k = parts_ask is true r (ids_in os) h k
constitutes_asks is kind.Null r os h k = λ e. h
constitutes_asks is kind.Sampler r (Value a mode ∷ Word n ∷ Value f filter ∷ []) h k = (λ e. h.0, λ e. h.1)
constitutes_asks is kind.PipeStorage r os h k = λ e. h
constitutes_asks is c r os h k = h

asks_constitutes : (is : List PlainInst) (c : Constant) (r : ℕ) (os : List Plain) → ((k : ℕ) → AsksOf is c r os k)
    → Constitutes is c r os
asks_constitutes is kind.Bool r os h = h 0 refl
asks_constitutes is kind.Number r (Number low high words ∷ []) h = (h 2).1 refl
asks_constitutes is kind.Composite r os h = ask_parts is false r (ids_in os) h
asks_constitutes is kind.SpecComposite r os h = ask_parts is true r (ids_in os) h
asks_constitutes is kind.Null r os h = h 0 refl
asks_constitutes is kind.Sampler r (Value a mode ∷ Word n ∷ Value f filter ∷ []) h = ((h 0).0 refl, (h 3).1 refl)
asks_constitutes is kind.PipeStorage r os h = h 0 refl
asks_constitutes is c r os h = h 0

pub makes_asks : (is : List PlainInst) (c : Constant) (os : List Plain)
    → IsSomeAnd (type_in os) (λ r. Constitutes is c r (after_head os)) → (k : ℕ) → Asks is c os k
makes_asks is c os h k = of (type_in os) h where
  of : (o : Option ℕ) → IsSomeAnd o (λ r. Constitutes is c r (after_head os))
      → IsSomeAnd o (λ r. AsksOf is c r (after_head os) k)
  of None g = g
  of (Some r) g = constitutes_asks is c r (after_head os) g k

pub asks_makes : (is : List PlainInst) (c : Constant) (os : List Plain) → ((k : ℕ) → Asks is c os k)
    → IsSomeAnd (type_in os) (λ r. Constitutes is c r (after_head os))
asks_makes is c os h = of (type_in os) h where
  of : (o : Option ℕ) → ((k : ℕ) → IsSomeAnd o (λ r. AsksOf is c r (after_head os) k))
      → IsSomeAnd o (λ r. Constitutes is c r (after_head os))
  of None g = g 0
  of (Some r) g = asks_constitutes is c r (after_head os) g

pub operands_make : (is : List PlainInst) (c : Constant) (os : List Plain)
    → ((k : ℕ) → Asks is c os k) ↔ IsSomeAnd (type_in os) (λ r. Constitutes is c r (after_head os))
operands_make is c os = (asks_makes is c os, makes_asks is c os)
