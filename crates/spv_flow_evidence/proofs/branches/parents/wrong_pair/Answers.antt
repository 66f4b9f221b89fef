use Rattle.std.proofs.Common.{◌≡◌, ◌≤◌, ◌<◌, Some, length, get_or, ap, arith}
use Rattle.std.specs.Prelude.{slice_get}
use Rattle.std.proofs.lemmas.List.{length-map}
use Rattle.spv_module.specs.Operand.{PlainInst}
use Rattle.spv_module.specs.declared.module.Inst.{Inst}
use Rattle.spv_module.specs.Module.{plain_inst, plain_operand}
use Rattle.spv_layout.specs.declared.form.Role.TheVariants.{Label}
use Rattle.spv_flow.specs.branches.inner.Code.{insts_of}
use Rattle.spv_flow.proofs.lemmas.branches.Labelled.{inst_get, use_at, use_in}
use Rattle.spv_flow_evidence.proofs.lemmas.branches.Naming.{names_other, names_more, names_end, no_block, unmarked}
use Rattle.spv_flow_evidence.proofs.lemmas.branches.Naming.{again}
use Rattle.spv_flow_evidence.proofs.branches.parents.wrong_pair.Goals as goal
use Rattle.spv_flow_evidence.proofs.branches.parents.wrong_pair.Goals.{in-Some+in-Some-label_of+else-not-marks-parent+in_default-names}
use Rattle.spv_flow_evidence.proofs.branches.parents.wrong_pair.Goals.{in_default}

pub returns-in_default-label_of : goal.returns-in_default-label_of
returns-in_default-label_of c = λ G block is of are ps all.
    let code = c.args.code.now in
    let x = c.in-Some.id in
    let i : PlainInst = plain_inst (get_or code.insts.now c.args.at c.index-code-at.result) in
    let there : slice_get (insts_of code) c.args.at ≡ Some i = inst_get code.insts.now c.args.at c.index-code-at.result
    c.requires.at in
    let used = use_at G (insts_of code) c.args.at c.loop-k.k x Label i there
    (c.in-Some.ensures G (is.plan.fits c.args.at i there)) in
    no_block G (insts_of code) c.args.at block c.loop-k.k x c.requires.op of used
    (c.in_default-label_of.ensures.label G is) ps all

pub returns-then-not-marks-parent : goal.returns-then-not-marks-parent
returns-then-not-marks-parent c = λ G block is of are ps all.
    let code = c.args.code.now in
    let x = c.in-Some.id in
    let i : PlainInst = plain_inst (get_or code.insts.now c.args.at c.index-code-at.result) in
    let there : slice_get (insts_of code) c.args.at ≡ Some i = inst_get code.insts.now c.args.at c.index-code-at.result
    c.requires.at in
    let used = use_at G (insts_of code) c.args.at c.loop-k.k x Label i there
    (c.in-Some.ensures G (is.plan.fits c.args.at i there)) in
    unmarked G code c.args.at block c.args.marks.now c.loop-k.k x c.in-Some-label_of.parent is c.requires.op of are used
    (c.in-Some-label_of.ensures.label G is) c.if-not-marks-parent.true ps all

pub returns-in-Some-names : goal.returns-in-Some-names
returns-in-Some-names c = λ G block is of are ps all.
    let code = c.args.code.now in
    let x = c.in-Some.id in
    let p = c.in-Some-label_of.parent in
    let i : PlainInst = plain_inst (get_or code.insts.now c.args.at c.index-code-at.result) in
    let there : slice_get (insts_of code) c.args.at ≡ Some i = inst_get code.insts.now c.args.at c.index-code-at.result
    c.requires.at in
    let used = use_at G (insts_of code) c.args.at c.loop-k.k x Label i there
    (c.in-Some.ensures G (is.plan.fits c.args.at i there)) in
    again G (insts_of code) c.args.at block c.args.marks.now c.loop-k.names c.in-Some-names.first c.loop-k.k x p
    c.requires.op of used (c.in-Some-label_of.ensures.label G is) c.in-Some-names.is
    (c.loop-k.invariant G is) ps all

pub loop-k-preserved : goal.loop-k-preserved
loop-k-preserved c = λ G is.
    let code = c.args.code.now in
    let L = insts_of code in
    let at = c.args.at in
    let k = c.loop-k.k in
    let marks = c.args.marks.now in
    let i : PlainInst = plain_inst (get_or code.insts.now at c.index-code-at.result) in
    let there : slice_get L at ≡ Some i = inst_get code.insts.now at c.index-code-at.result c.requires.at in
    let fits = is.plan.fits at i there in
    elim c.match-label.branch [
      | in-Some+in-Some-label_of+else-not-marks-parent+in_default-names w ↦ (
          let p = w.in-Some-label_of.parent in
          let within : p < length c.loop-k.names = omega
          (arith, w.in-Some-label_of.ensures.within, c.requires.names, c.loop-k.auto.names) in
          let used = use_at G L at k w.in-Some.id Label i there (w.in-Some.ensures G fits) in
          rw w.names-is (names_more G code at marks c.loop-k.names k w.in-Some.id p is within used
          (w.in-Some-label_of.ensures.label G is) w.if-not-marks-parent.false w.in_default-names.is
          (c.loop-k.invariant G is)))
      | in_default w ↦ (rw w.names-is (names_other G L at marks c.loop-k.names k
          (λ x u. w.in_default.ensures G fits x (use_in G L at k x Label i there u)) (c.loop-k.invariant G is)))
    ]

pub returns : goal.returns
returns c = λ G block is of are.
    let code = c.args.code.now in
    let inst : Inst = get_or code.insts.now c.args.at c.index-code-at.result in
    let i : PlainInst = plain_inst inst in
    let there : slice_get (insts_of code) c.args.at ≡ Some i = inst_get code.insts.now c.args.at c.index-code-at.result
    c.requires.at in
    let all : length i.operands ≤ c.loop-k.k = omega
    (arith, length-map inst.operands plain_operand, ap length c.as_slice-k-end.ensures.value) in
    names_end G (insts_of code) c.args.at c.args.marks.now c.loop-k.names c.loop-k.k i there all
    (c.loop-k.invariant G is)
