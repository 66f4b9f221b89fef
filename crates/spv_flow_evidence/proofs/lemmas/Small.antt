-- What the worked examples share: lists of a few instructions, of which the first is an OpFunction.
use Rattle.std.proofs.Common.{◌≡◌, ◌<◌, ◌≤◌, ℕ, List, [], ◌∷◌, Some, subst, length, arith}
use Rattle.std.specs.Prelude.{slice_get}
use Rattle.spv_module.specs.Operand.{PlainInst, result_in}
use Rattle.spv_layout.specs.declared.class.Class.TheVariants.{Function, FunctionEnd}
use Rattle.spv_layout.specs.Place.{IsAt, IsOfFunction}
use Rattle.spv_ids.specs.Definition.{IsDefinedAt}

pub no_result : (is : List PlainInst) (m n x : ℕ) (i : PlainInst) → n ≡ m → slice_get is m ≡ Some i
    → ¬ (result_in i.operands ≡ Some x) → ¬ (IsDefinedAt is x n)
no_result is m n x i f t none d =
    let s : slice_get is m ≡ Some d.inst = subst (λ (k : ℕ). slice_get is k ≡ Some d.inst) f d.there in
    let e : d.inst ≡ i = cc in
    none (rw e at d.result)

pub of_first : (is : List PlainInst) (n : ℕ) → n < length is → IsAt is 0 (Function ∷ [])
    → ((k : ℕ) → 0 < k → k ≤ n → ¬ (IsAt is k (Function ∷ []))) → ((k : ℕ) → k < n → ¬ (IsAt is k (FunctionEnd ∷ [])))
    → IsOfFunction is n 0
of_first is n within there other ended = record {
  begun = record { within = within; up_to = omega arith; there = there; last = other };
  not_ended = λ k a b. ended k b;
}
