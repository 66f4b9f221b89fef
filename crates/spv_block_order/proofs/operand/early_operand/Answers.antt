use Rattle.std.proofs.Common.{◌≡◌, ℕ, get_or, length, ap, subst, inl, inr, arith}
use Rattle.std.proofs.lemmas.Bool.{cases_lt}
use Rattle.std.proofs.lemmas.List.{length-map}
use Rattle.spv_module.specs.Module.{plain_inst, plain_operand}
use Rattle.spv_flow.proofs.lemmas.branches.Labelled.{inst_get}
use Rattle.spv_flow.specs.walks.inner.Code.{insts_of}
use Rattle.spv_block_order.specs.inner.Uses.{IsEarlyAt}
use Rattle.spv_block_order.proofs.Using.{none_early, use_by}
use Rattle.spv_block_order.proofs.operand.early_operand.Goals as goal

pub returns-in-Some : goal.returns-in-Some
returns-in-Some c = λ G is.
    let k = c.requires.broken in
    use_by G k.0 c.args.code.now c.args.at c.loop-n.n c.in-Some.place is k.2 (c.in-Some.ensures G is)

pub loop-n-preserved : goal.loop-n-preserved
loop-n-preserved c = λ G is k lt. elim (cases_lt k c.loop-n.n) [
  | inl less ↦ c.loop-n.invariant G is k less
  | inr more ↦ (
      let same : c.loop-n.n ≡ k = omega (arith, lt, more) in
      subst (λ (j : ℕ). IsEarlyAt G (insts_of c.args.code.now) c.args.at j → ⊥) same (c.in_default.ensures G is))
]

pub unreachable-requires : goal.unreachable-requires
unreachable-requires c =
    let r = c.requires.broken in
    let insts = c.args.code.now.insts.now in
    let at = c.args.at in
    let d = get_or insts at c.index-code-at.result in
    let l = ap length c.as_slice-n-end.ensures.value in
    let m = length-map d.operands plain_operand in
    let end = c.loop-n-test.false in
    none_early r.0 (insts_of c.args.code.now) at c.loop-n.n (plain_inst d)
    (inst_get insts at c.index-code-at.result c.requires.at) (omega (arith, l, m, end)) (c.loop-n.invariant r.0 r.1) r.2
