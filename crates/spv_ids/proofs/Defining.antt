-- The result of an instruction is what it defines.
use Rattle.std.proofs.Common.{◌≡◌, ◌≢◌, ◌∙◌, ◌<◌, ◌≤◌, ◌⊎◌, ℕ, List, sym, ap, inl, inr, Option, Some, map, length}
use Rattle.std.proofs.Common.{get_or, arith}
use Rattle.std.specs.Prelude.{slice_get, option_map}
use Rattle.std.proofs.lemmas.Bool.{cases_order}
use Rattle.std.proofs.lemmas.Option.{slice_get-map, slice_get-get_or, slice_get_within}
use Rattle.spv_module.specs.declared.module.Inst.{Inst}
use Rattle.spv_module.specs.Operand.{PlainInst, result_in}
use Rattle.spv_module.specs.Module.{plain_inst}
use Rattle.spv_ids.specs.Definition.{IsDefinedAt}

-- below n, or n
pub below_or : (k n : ℕ) → k ≤ n → (k < n) ⊎ (k ≡ n)
below_or k n h = elim (cases_order k n) [
  | inl e ↦ inr e
  | inr r ↦
      elim r [ inl l ↦ inl l | inr g ↦ absurd (omega arith) ]
]

pub same_inst : (is : List PlainInst) (n : ℕ) (i j : PlainInst) → slice_get is n ≡ Some i → slice_get is n ≡ Some j
    → i ≡ j
same_inst is n i j h g = cc

pub defined_moved : (is : List PlainInst) (x m n : ℕ) → m ≡ n → IsDefinedAt is x m → IsDefinedAt is x n
defined_moved is x m n e d = rw (← e) d

pub defined_within : (is : List PlainInst) (x n : ℕ) → IsDefinedAt is x n → n < length is
defined_within is x n d = slice_get_within is n d.inst d.there

-- what an instruction defines is its result
pub defined_result : (is : List PlainInst) (n x : ℕ) (i : PlainInst) (r : Option ℕ) → slice_get is n ≡ Some i
    → r ≡ result_in i.operands → IsDefinedAt is x n → r ≡ Some x
defined_result is n x i r h g d =
    let e : d.inst ≡ i = same_inst is n d.inst i d.there h in
    let b = rw e at d.result in
    g ∙ b

pub defined_here : (is : List PlainInst) (n x : ℕ) (i : PlainInst) → slice_get is n ≡ Some i
    → Some x ≡ result_in i.operands → IsDefinedAt is x n
defined_here is n x i h g = record { inst = i; there = h; result = sym g }

-- an instruction without a result, or with another one
pub not_defined : (is : List PlainInst) (n x : ℕ) (i : PlainInst) (r : Option ℕ) → slice_get is n ≡ Some i
    → r ≡ result_in i.operands → r ≢ Some x → ¬ (IsDefinedAt is x n)
not_defined is n x i r h g k d = k (defined_result is n x i r h g d)

-- an instruction of a slice
pub inst_at : (insts : List Inst) (n : ℕ) (d : Inst) → n < length insts
    → slice_get (map plain_inst insts) n ≡ Some (plain_inst (get_or insts n d))
inst_at insts n d h = slice_get-map plain_inst insts n ∙ ap (option_map plain_inst) (slice_get-get_or insts n d h)
