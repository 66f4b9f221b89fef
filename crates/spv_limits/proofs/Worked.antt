-- Worked examples.
use Rattle.std.proofs.Common.{◌≡◌, ◌∙◌, ℕ, zero, suc, [], ◌∷◌, Some, refl, ap, arith}
use Rattle.std.specs.Prelude.{slice_get}
use Rattle.std.proofs.lemmas.Option.{none-some, same_Some}
use Rattle.spv_module.specs.Operand.{Id, result_in, PlainInst}
use Rattle.spv_ids.specs.Outcome.{IsOnly}
use Rattle.spv_limits.specs.Depth.{IsDeep, IsMemberOf, IsStruct, alone, within}
use Rattle.spv_limits.specs.Example.{nested}

inner : IsStruct nested 1 2 (Id 1 ∷ Id 1 ∷ [])
inner = record { inst = _; there = refl; opcode = refl; operands = refl }

outer : IsStruct nested 2 3 (Id 2 ∷ [])
outer = record { inst = _; there = refl; opcode = refl; operands = refl }

pub deep_one : IsDeep nested 1 1
deep_one = alone 1 2 (Id 1 ∷ Id 1 ∷ []) inner

one_definition : (k : ℕ) (j : PlainInst) → slice_get nested k ≡ Some j → result_in j.operands ≡ Some 2 → k ≡ 1
one_definition zero j e r =
    let q : Some 1 ≡ Some 2 = ap (λ (i : PlainInst). result_in i.operands) (same_Some _ j e) ∙ r in
    absurd (omega (arith, same_Some 1 2 q))
one_definition (suc zero) j e r = refl
one_definition (suc (suc zero)) j e r =
    let q : Some 3 ≡ Some 2 = ap (λ (i : PlainInst). result_in i.operands) (same_Some _ j e) ∙ r in
    absurd (omega (arith, same_Some 3 2 q))
one_definition (suc (suc (suc k))) j e r = absurd (none-some j e)

defined : IsOnly nested 2 1
defined = record {
  there = record { inst = _; there = refl; result = refl };
  only = λ k d. one_definition k d.inst d.there d.result;
}

member : IsMemberOf nested (Id 2 ∷ []) 1
member = record {
  place = 0;
  id = 2;
  named = refl;
  defined = defined;
  others = Id 1 ∷ Id 1 ∷ [];
  struct = inner;
}

pub deep_two : IsDeep nested 2 2
deep_two = within 2 3 1 1 (Id 2 ∷ []) outer member deep_one
