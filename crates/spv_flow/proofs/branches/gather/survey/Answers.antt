use Rattle.std.proofs.Common.{◌≡◌, ◌<◌, ◌+◌, ◌∙◌, inl, inr, ℕ, Bool, List, Some, map, get_or, subst, refl, arith}
use Rattle.std.specs.Prelude.{slice_get, IsTrue}
use Rattle.std.proofs.lemmas.Bool.{cases_lt, eqb-true}
use Rattle.std.proofs.lemmas.List.{length-set}
use Rattle.spv_module.specs.declared.opcode.TheConstants as opcode
use Rattle.spv_module.specs.declared.module.Inst.{Inst}
use Rattle.spv_module.specs.Operand.{PlainInst}
use Rattle.spv_module.specs.Module.{plain_inst}
use Rattle.spv_flow.specs.branches.Target.{is_phi, IsOp}
use Rattle.spv_flow.proofs.lemmas.branches.Labelled.{inst_get, op_tells}
use Rattle.spv_flow.proofs.lemmas.branches.Entries.{follows_function, follows_label, follows_other}
use Rattle.spv_flow.proofs.branches.gather.survey.Goals as goal
use Rattle.spv_flow.proofs.branches.gather.survey.Goals.{then-opcode-eq-FUNCTION}
use Rattle.spv_flow.proofs.branches.gather.survey.Goals.{else-opcode-eq-FUNCTION+then-opcode-eq-LABEL}
use Rattle.spv_flow.proofs.branches.gather.survey.Goals.{else-opcode-eq-FUNCTION+else-opcode-eq-LABEL+then-opcode-eq-PHI}
use Rattle.spv_flow.proofs.branches.gather.survey.Goals.{else-opcode-eq-FUNCTION+else-opcode-eq-LABEL+else-opcode-eq-PHI}

-- an instruction more that is no OpPhi
no_phi : (is : List PlainInst) (at : ℕ) (has : Bool) (i : PlainInst) → slice_get is at ≡ Some i
    → (i.opcode ≡ opcode.PHI → ⊥) → ((n : ℕ) → n < at → IsOp is n is_phi → IsTrue has) → (n : ℕ) → n < at + 1
    → IsOp is n is_phi → IsTrue has
no_phi is at has i there isnt before n lt o = elim (cases_lt n at) [
  | inl less ↦ before n less o
  | inr more ↦ (
      let e : n ≡ at = omega (arith, lt, more) in
      absurd (isnt (eqb-true i.opcode opcode.PHI
      (op_tells is at i is_phi there (subst (λ (k : ℕ). IsOp is k is_phi) e o)))))
]

pub loop-at-preserved : goal.loop-at-preserved
loop-at-preserved c =
    let insts = c.args.insts.now in
    let is = map plain_inst insts in
    let at = c.loop-at.at in
    let inst : Inst = get_or insts at c.index-insts-at.result in
    let there : slice_get is at ≡ Some (plain_inst inst) = inst_get insts at c.index-insts-at.result (omega arith) in
    let marks = c.loop-at.entries.items in
    let before = c.loop-at.invariant.following in
    let phis = no_phi is at c.loop-at.has_phis (plain_inst inst) there in
    elim c.if-opcode-eq-FUNCTION.branch [
      | then-opcode-eq-FUNCTION w ↦ (
          let op : inst.opcode ≡ opcode.FUNCTION = w.if-opcode-eq-FUNCTION.true in
          rw (w.entries-is, w.is_open-is, w.has_phis-is) (record {
            count = c.loop-at.invariant.count;
            following = follows_function is marks c.loop-at.is_open at (plain_inst inst) there op before;
            phis = phis (λ e. absurd (omega (arith, e, op))) c.loop-at.invariant.phis;
          }))
      | else-opcode-eq-FUNCTION+then-opcode-eq-LABEL w ↦ (
          let op : inst.opcode ≡ opcode.LABEL = w.if-opcode-eq-LABEL.true in
          rw (w.entries-is, w.is_open-is, w.has_phis-is) (record {
            count = length-set marks at c.loop-at.is_open ∙ c.loop-at.invariant.count;
            following = follows_label is marks c.loop-at.is_open at (plain_inst inst)
                (omega (arith, c.loop-at.invariant.count)) there op before;
            phis = phis (λ e. absurd (omega (arith, e, op))) c.loop-at.invariant.phis;
          }))
      | else-opcode-eq-FUNCTION+else-opcode-eq-LABEL+then-opcode-eq-PHI w ↦
          (rw (w.entries-is, w.is_open-is, w.has_phis-is) (record {
            count = c.loop-at.invariant.count;
            following = follows_other is marks c.loop-at.is_open at
                (plain_inst inst) there w.if-opcode-eq-FUNCTION.false w.if-opcode-eq-LABEL.false before;
            phis = λ n lt o. refl;
          }))
      | else-opcode-eq-FUNCTION+else-opcode-eq-LABEL+else-opcode-eq-PHI w ↦
          (rw (w.entries-is, w.is_open-is, w.has_phis-is) (record {
            count = c.loop-at.invariant.count;
            following = follows_other is marks c.loop-at.is_open at
                (plain_inst inst) there w.if-opcode-eq-FUNCTION.false w.if-opcode-eq-LABEL.false before;
            phis = phis w.if-opcode-eq-PHI.false c.loop-at.invariant.phis;
          }))
    ]
