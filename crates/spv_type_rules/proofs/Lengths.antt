-- The operands of an OpTypeArray are three.
use Rattle.std.proofs.Common.{◌≡◌, ◌<◌, ◌≤◌, ◌↔◌, ℕ, List, [], ◌∷◌, length, true, false, refl, arith}
use Rattle.std.specs.Prelude.{IsTrue}
use Rattle.std.proofs.lemmas.List.{length-map}
use Rattle.spv_module.specs.Operand.{Plain, Result, Id, PlainInst}
use Rattle.spv_module.specs.Module.{plain_operand, plain_operands}
use Rattle.spv_module.specs.declared.operand.Operand.{Operand}
use Rattle.spv_type_rules.specs.declared.declaration.Declaration.TheVariants.{Array}
use Rattle.spv_type_rules.specs.Declaration.{DeclaresSoundly}

three : (is : List PlainInst) (n : ℕ) (os : List Plain) → DeclaresSoundly is n Array os → length os ≡ 3
three is n (Result t ∷ Id e ∷ Id l ∷ []) h = refl
three is n os h = absurd h

pub too_few : (is : List PlainInst) (os : List Operand) → length os < 3
    → IsTrue false ↔ DeclaresSoundly is 0 Array (plain_operands os)
too_few is os l = (
  λ y. absurd (let no : false ≡ true = y in cc),
  λ r.
      let e = three is 0 (plain_operands os) r in
      let k = length-map os plain_operand in
      absurd (omega arith),
)

pub too_many : (is : List PlainInst) (os : List Operand) → 4 ≤ length os
    → IsTrue false ↔ DeclaresSoundly is 0 Array (plain_operands os)
too_many is os l = (
  λ y. absurd (let no : false ≡ true = y in cc),
  λ r.
      let e = three is 0 (plain_operands os) r in
      let k = length-map os plain_operand in
      absurd (omega arith),
)
