use Rattle.std.proofs.Common.{◌≡◌, ◌≤◌, Some, length, get_or, ap, arith}
use Rattle.std.specs.Prelude.{slice_get}
use Rattle.spv_module.specs.Operand.{PlainInst}
use Rattle.spv_module.specs.declared.module.Inst.{Inst}
use Rattle.spv_module.specs.Module.{plain_inst, plain_operand}
use Rattle.spv_layout.specs.declared.form.Role.TheVariants.{Label}
use Rattle.spv_flow.specs.branches.inner.Code.{insts_of}
use Rattle.spv_flow.specs.branches.inner.Labels.{is_labelled}
use Rattle.std.proofs.lemmas.List.{length-map}
use Rattle.spv_flow.proofs.lemmas.branches.Labelled.{inst_get, op_tells, use_at, use_in}
use Rattle.spv_flow.proofs.lemmas.branches.Taking.{taking_more, taking_other, taking_end, not_label, not_marked}
use Rattle.spv_flow.proofs.branches.faults.take_parents.Goals as goal
use Rattle.spv_flow.proofs.branches.faults.take_parents.Goals.{in-Some+in-Some-label_of+else-not-marks-parent}
use Rattle.spv_flow.proofs.branches.faults.take_parents.Goals.{in_default}

pub label-requires : goal.label-requires
label-requires c =
    let code = c.args.code.now in
    let i : PlainInst = plain_inst (get_or code.insts.now c.args.at c.index-code-at.result) in
    let there : slice_get (insts_of code) c.args.at ≡ Some i = inst_get code.insts.now c.args.at c.index-code-at.result
    c.requires.at in
    op_tells (insts_of code) c.args.at i is_labelled there c.requires.op

pub returns-in_default-label_of : goal.returns-in_default-label_of
returns-in_default-label_of c = λ G is can.
    let code = c.args.code.now in
    let i : PlainInst = plain_inst (get_or code.insts.now c.args.at c.index-code-at.result) in
    let there : slice_get (insts_of code) c.args.at ≡ Some i = inst_get code.insts.now c.args.at c.index-code-at.result
    c.requires.at in
    let used = use_at G (insts_of code) c.args.at c.loop-n.n c.in-Some.id Label i there
    (c.in-Some.ensures G (is.plan.fits c.args.at i there)) in
    not_label G (insts_of code) c.args.at c.args.marks.now c.loop-n.n c.in-Some.id used
    (c.in_default-label_of.ensures.label G is) can

pub returns-then-not-marks-parent : goal.returns-then-not-marks-parent
returns-then-not-marks-parent c = λ G is can.
    let code = c.args.code.now in
    let i : PlainInst = plain_inst (get_or code.insts.now c.args.at c.index-code-at.result) in
    let there : slice_get (insts_of code) c.args.at ≡ Some i = inst_get code.insts.now c.args.at c.index-code-at.result
    c.requires.at in
    let used = use_at G (insts_of code) c.args.at c.loop-n.n c.in-Some.id Label i there
    (c.in-Some.ensures G (is.plan.fits c.args.at i there)) in
    not_marked G code c.args.at c.args.marks.now c.loop-n.marks c.loop-n.n c.in-Some.id c.in-Some-label_of.parent is
    used (c.in-Some-label_of.ensures.label G is) c.if-not-marks-parent.true (c.loop-n.invariant G is) can

pub loop-n-preserved : goal.loop-n-preserved
loop-n-preserved c = λ G is.
    let code = c.args.code.now in
    let i : PlainInst = plain_inst (get_or code.insts.now c.args.at c.index-code-at.result) in
    let there : slice_get (insts_of code) c.args.at ≡ Some i = inst_get code.insts.now c.args.at c.index-code-at.result
    c.requires.at in
    let fits = is.plan.fits c.args.at i there in
    elim c.match-label.branch [
      | in-Some+in-Some-label_of+else-not-marks-parent w ↦
          (rw w.marks-is (taking_more G code c.args.at c.args.marks.now c.loop-n.marks c.loop-n.n w.in-Some.id
          w.in-Some-label_of.parent is
          (omega (arith, w.in-Some-label_of.ensures.within, c.requires.marks, c.loop-n.auto.marks))
          (use_at G (insts_of code) c.args.at c.loop-n.n w.in-Some.id Label i there (w.in-Some.ensures G fits))
          (w.in-Some-label_of.ensures.label G is) w.if-not-marks-parent.false (c.loop-n.invariant G is)))
      | in_default w ↦ (rw w.marks-is (taking_other G
          (insts_of code) c.args.at c.args.marks.now c.loop-n.marks c.loop-n.n
          (λ x u. w.in_default.ensures G fits x (use_in G (insts_of code) c.args.at c.loop-n.n x Label i there u))
          (c.loop-n.invariant G is)))
    ]

pub returns : goal.returns
returns c = λ G is.
    let code = c.args.code.now in
    let inst : Inst = get_or code.insts.now c.args.at c.index-code-at.result in
    let i : PlainInst = plain_inst inst in
    let there : slice_get (insts_of code) c.args.at ≡ Some i = inst_get code.insts.now c.args.at c.index-code-at.result
    c.requires.at in
    let all : length i.operands ≤ c.loop-n.n = omega
    (arith, length-map inst.operands plain_operand, ap length c.as_slice-n-end.ensures.value) in
    taking_end G (insts_of code) c.args.at c.args.marks.now c.loop-n.marks c.loop-n.n i there all
    (c.loop-n.invariant G is)
