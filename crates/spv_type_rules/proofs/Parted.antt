-- The parts of a composite constant: that each may be one, and that each is of its part's type.
use Rattle.std.proofs.Common.{◌≡◌, ◌+◌, ◌↔◌, ℕ, List, [], ◌∷◌, Option, Some, None, Bool, true, false, ◌&&◌}
use Rattle.std.proofs.Common.{option_and_then, length, refl}
use Rattle.std.specs.Prelude.{IsTrue, IsSomeAnd}
use Rattle.std.specs.List.{AllByRecursion}
use Rattle.spv_module.specs.Operand.{PlainInst, type_in}
use Rattle.spv_module.specs.Width.{definition_of, type_of}
use Rattle.spv_type_forms.specs.Parts.{part_of, count_of}
use Rattle.spv_type_forms.specs.inner.Tests.{are_same, are_parts_from}
use Rattle.spv_type_forms.proofs.TagTests.{fills_typed}
use Rattle.spv_type_rules.specs.Constant.{is_part_opcode, IsPart, AreConstantParts}
use Rattle.spv_type_rules.specs.inner.Found.{is_typed_part, are_typed_parts}

both : (a b : Bool) → a && b ≡ true → (a ≡ true) × (b ≡ true)
both true b h = (refl, h)
both false b h = absurd (let no : false ≡ true = h in cc)

and_yes : (a b : Bool) → a ≡ true → b ≡ true → a && b ≡ true
and_yes a b e f = rw (e, f) refl

one_part : (spec : Bool) (part : Option ℕ) (o : Option PlainInst)
    → (is_typed_part spec part o ≡ true) ↔
    (IsSomeAnd o (λ d. IsTrue (is_part_opcode spec d.opcode))
    × (are_same part (option_and_then (λ i. type_in i.operands) o) ≡ true))
one_part spec part None = (λ y. absurd (let no : false ≡ true = y in cc), λ p. absurd p.0)
one_part spec part (Some i) = (
  λ y. let two = both (are_same part (type_in i.operands)) (is_part_opcode spec i.opcode) y in (two.1, two.0),
  λ p. and_yes (are_same part (type_in i.operands)) (is_part_opcode spec i.opcode) p.1 p.0,
)

all_parts : (is : List PlainInst) (spec : Bool) (r k : ℕ) (xs : List ℕ)
    → (are_typed_parts is spec r k xs ≡ true) ↔ (AllByRecursion (IsPart is spec) xs × (are_parts_from is r k xs ≡ true))
all_parts is spec r k [] = (λ y. (tt, refl), λ p. refl)
all_parts is spec r k (x ∷ xs) =
    let a = is_typed_part spec (part_of is r k) (definition_of is x) in
    let b = are_typed_parts is spec r (k + 1) xs in
    let same = are_same (part_of is r k) (type_of is x) in
    let rest = are_parts_from is r (k + 1) xs in
    let one = one_part spec (part_of is r k) (definition_of is x) in
    let more = all_parts is spec r (k + 1) xs in (
      λ y. let two = both a b y in let p = one.0 two.0 in let q = more.0 two.1 in
          ((p.0, q.0), and_yes same rest p.1 q.1),
      λ p. let two = both same rest p.1 in and_yes a b (one.1 (p.0.0, two.0)) (more.1 (p.0.1, two.1)),
    )

pub parts_told : (is : List PlainInst) (spec : Bool) (r : ℕ) (xs : List ℕ)
    → ((are_typed_parts is spec r 0 xs ≡ true) × (count_of is r ≡ Some (length xs))) ↔ AreConstantParts is spec r xs
parts_told is spec r xs =
    let all = all_parts is spec r 0 xs in
    let full = fills_typed is r xs in (
      λ p. let a = all.0 p.0 in (a.0, full.0 (a.1, p.1)),
      λ q. let f = full.1 q.1 in (all.1 (q.0, f.0), f.1),
    )
