use Rattle.std.proofs.Common.{◌≡◌, ◌<◌, ◌∙◌, ℕ, Some, inl, inr, get_or, sym, subst, arith}
use Rattle.std.proofs.lemmas.Bool.{cases_lt}
use Rattle.spv_module.specs.declared.opcode.TheConstants as opcode
use Rattle.spv_module.specs.declared.module.Inst.{Inst}
use Rattle.spv_module.specs.Operand.{PlainInst}
use Rattle.spv_module.specs.Module.{plain_inst}
use Rattle.spv_flow.proofs.lemmas.branches.Labelled.{inst_get}
use Rattle.spv_flow.proofs.branches.branches.next_asked.Goals as goal

pub loop-at-preserved : goal.loop-at-preserved
loop-at-preserved c =
    let insts = c.args.insts.now in
    let at = c.loop-at.at in
    let here = c.loop-at-test.true in
    let before = c.loop-at.invariant.further in
    let inst : Inst = get_or insts at c.index-insts-at.result in
    record {
      within = omega (arith, here);
      further = omega (arith, before);
      passed = λ n i low lt there. elim (cases_lt n at) [
        | inl less ↦ c.loop-at.invariant.passed n i low less there
        | inr more ↦
            let e : n ≡ at = omega (arith, lt, more) in
            let h : Some (plain_inst inst) ≡ Some i = sym (inst_get insts at c.index-insts-at.result here)
            ∙ (rw e at there) in
            let s : plain_inst inst ≡ i = cc in
            subst (λ (j : PlainInst). j.opcode < opcode.PHI) s c.if-insts-at-lt-PHI.true
      ];
    }
