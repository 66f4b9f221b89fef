use Rattle.std.proofs.Common.{◌≡◌, ℕ, subst, inl, inr, arith}
use Rattle.std.proofs.lemmas.Bool.{cases_lt}
use Rattle.spv_flow.specs.walks.inner.Code.{insts_of}
use Rattle.spv_block_order.specs.Early.{IsEarlyUse}
use Rattle.spv_block_order.proofs.uses.first_early_use.Goals as goal

pub loop-at-init : goal.loop-at-init
loop-at-init c = λ G is m from lt. absurd (omega (arith, from, lt))

pub returns-then-is_early_use : goal.returns-then-is_early_use
returns-then-is_early_use c = λ G is. (
  (c.loop-at.auto.at, c.loop-at-test.true, c.if-is_early_use.ensures G is),
  λ m lt all. c.loop-at.invariant G is m all.0 lt all.2,
)

pub loop-at-preserved : goal.loop-at-preserved
loop-at-preserved c = λ G is m from lt. elim (cases_lt m c.loop-at.at) [
  | inl less ↦ c.loop-at.invariant G is m from less
  | inr more ↦ (
      let same : c.loop-at.at ≡ m = omega (arith, lt, more) in
      subst (λ (k : ℕ). IsEarlyUse G (insts_of c.args.code.now) k → ⊥) same (c.if-is_early_use.ensures G is))
]

pub returns : goal.returns
returns c = λ G is n all.
    let end = c.loop-at-test.false in
    let lt = all.1 in
    c.loop-at.invariant G is n all.0 (omega (arith, end, lt)) all.2
