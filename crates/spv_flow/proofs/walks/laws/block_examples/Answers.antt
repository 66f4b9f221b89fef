use Rattle.std.proofs.Common.{◌≡◌, ℕ, refl, inl, inr, true, false, subst, arith}
use Rattle.spv_flow.specs.branches.Target.{IsOp}
use Rattle.spv_flow.specs.branches.inner.Target.{is_terminator}
use Rattle.spv_flow.specs.branches.Example.{two_blocks}
use Rattle.spv_flow.proofs.walks.laws.block_examples.Goals as goal

pub returns-clause-begins : goal.returns-clause-begins
returns-clause-begins c = inl refl

no_end : ¬ (IsOp two_blocks 1 is_terminator)
no_end h = let f : false ≡ true = h in cc

pub returns-clause-inside : goal.returns-clause-inside
returns-clause-inside c = λ begin. elim begin [
  | inl label ↦ (let f : false ≡ true = label in cc)
  | inr ended ↦ (
      let e : ended.0 ≡ 1 = (let h = ended.1 in omega (arith, h)) in
      no_end (subst (λ (n : ℕ). IsOp two_blocks n is_terminator) e ended.2))
]

pub returns-clause-within : goal.returns-clause-within
returns-clause-within c = record { block = omega arith; from = omega arith; to = omega arith }

pub returns-clause-outside : goal.returns-clause-outside
returns-clause-outside c = λ i. let to = i.to in omega (arith, to)
