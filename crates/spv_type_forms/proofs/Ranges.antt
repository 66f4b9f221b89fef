-- The members of a range are four.
use Rattle.std.proofs.Common.{◌≡◌, ◌<◌, ◌≤◌, ◌↔◌, ℕ, List, [], ◌∷◌, length, true, false, refl, arith}
use Rattle.std.specs.Prelude.{IsTrue}
use Rattle.std.proofs.lemmas.List.{length-map}
use Rattle.spv_module.specs.Operand.{Plain, Id, PlainInst}
use Rattle.spv_module.specs.Module.{plain_operand, plain_operands}
use Rattle.spv_module.specs.declared.operand.Operand.{Operand}
use Rattle.spv_type_forms.specs.Objects.{AreOfRange}

four : (is : List PlainInst) (os : List Plain) → AreOfRange is os → length os ≡ 4
four is (Id d ∷ Id a ∷ Id b ∷ Id c ∷ []) h = refl
four is os h = absurd h

pub too_few : (is : List PlainInst) (os : List Operand) → length os < 4
    → IsTrue false ↔ AreOfRange is (plain_operands os)
too_few is os l = (
  λ y. absurd (let no : false ≡ true = y in cc),
  λ r.
      let e = four is (plain_operands os) r in
      let k = length-map os plain_operand in
      absurd (omega arith),
)

pub too_many : (is : List PlainInst) (os : List Operand) → 5 ≤ length os
    → IsTrue false ↔ AreOfRange is (plain_operands os)
too_many is os l = (
  λ y. absurd (let no : false ≡ true = y in cc),
  λ r.
      let e = four is (plain_operands os) r in
      let k = length-map os plain_operand in
      absurd (omega arith),
)
