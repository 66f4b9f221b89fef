use Rattle.std.proofs.Common.{◌≡◌, ℕ, get_or, eq-eqb, length, ap, subst, inl, inr, arith}
use Rattle.std.proofs.lemmas.Bool.{cases_lt}
use Rattle.std.proofs.lemmas.List.{length-map}
use Rattle.spv_module.specs.declared.opcode.TheConstants as opcode
use Rattle.spv_module.specs.Module.{plain_inst, plain_operand}
use Rattle.spv_flow.specs.branches.Target.{is_phi}
use Rattle.spv_flow.proofs.lemmas.branches.Labelled.{inst_get, op_holds}
use Rattle.spv_flow.specs.walks.inner.Code.{insts_of}
use Rattle.spv_block_order.specs.inner.Uses.{IsEarlyAt}
use Rattle.spv_block_order.proofs.Using.{early_here, none_early, phi_late, outside_late, other_by}
use Rattle.spv_block_order.proofs.uses.is_early_use.Goals as goal

pub returns-then-inst-eq-PHI : goal.returns-then-inst-eq-PHI
returns-then-inst-eq-PHI c = λ G is.
    let insts = c.args.code.now.insts.now in
    let at = c.args.at in
    let i = plain_inst (get_or insts at c.index-code-at.result) in
    phi_late G (insts_of c.args.code.now) at
    (op_holds (insts_of c.args.code.now) at i is_phi (inst_get insts at c.index-code-at.result c.requires)
    (eq-eqb i.opcode opcode.PHI c.if-inst-eq-PHI.true))

pub returns-then-not-is_of_block : goal.returns-then-not-is_of_block
returns-then-not-is_of_block c = λ G is.
    outside_late G (insts_of c.args.code.now) c.args.at (c.if-not-is_of_block.ensures G is)

pub returns-then-is_early_at : goal.returns-then-is_early_at
returns-then-is_early_at c = λ G is.
    let insts = c.args.code.now.insts.now in
    let at = c.args.at in
    let i = plain_inst (get_or insts at c.index-code-at.result) in
    let other = other_by (insts_of c.args.code.now) at i (inst_get insts at c.index-code-at.result c.requires)
    c.if-inst-eq-PHI.false in
    early_here G (insts_of c.args.code.now) at c.loop-n.n other (c.if-not-is_of_block.ensures G is)
    (c.if-is_early_at.ensures G is)

pub loop-n-preserved : goal.loop-n-preserved
loop-n-preserved c = λ G is k lt. elim (cases_lt k c.loop-n.n) [
  | inl less ↦ c.loop-n.invariant G is k less
  | inr more ↦ (
      let same : c.loop-n.n ≡ k = omega (arith, lt, more) in
      subst (λ (j : ℕ). IsEarlyAt G (insts_of c.args.code.now) c.args.at j → ⊥) same (c.if-is_early_at.ensures G is))
]

pub returns : goal.returns
returns c = λ G is.
    let insts = c.args.code.now.insts.now in
    let at = c.args.at in
    let d = get_or insts at c.index-code-at.result in
    let l = ap length c.as_slice-n-end.ensures.value in
    let m = length-map d.operands plain_operand in
    let end = c.loop-n-test.false in
    none_early G (insts_of c.args.code.now) at c.loop-n.n (plain_inst d)
    (inst_get insts at c.index-code-at.result c.requires) (omega (arith, l, m, end)) (c.loop-n.invariant G is)
