use Rattle.std.proofs.Common.{◌≡◌, List, Some, get_or, refl, sym, ap}
use Rattle.std.specs.Prelude.{slice_get}
use Rattle.spv_module.specs.Operand.{PlainInst}
use Rattle.spv_module.specs.declared.module.Inst.{Inst}
use Rattle.spv_module.specs.declared.operand.Operand.{Operand}
use Rattle.spv_module.specs.Module.{plain_inst, plain_operands}
use Rattle.spv_layout.specs.declared.form.Role.TheVariants.{Label}
use Rattle.spv_flow.specs.branches.Target.{is_branch}
use Rattle.spv_flow.specs.branches.inner.Labels.{IsMadeOf}
use Rattle.spv_flow.proofs.lemmas.branches.Labelled.{inst_get, op_tells, use_at}
use Rattle.spv_flow.proofs.lemmas.branches.Places.{branch_labelled}
use Rattle.spv_flow.specs.walks.inner.Code.{insts_of}
use Rattle.spv_block_order.proofs.Rising.{marked_none, marked_then}
use Rattle.spv_block_order.proofs.rise.mark_labels.Goals as goal

pub loop-n-init : goal.loop-n-init
loop-n-init c = marked_none c.args.code.now c.args.at c.args.marks.now

pub label_in-requires : goal.label_in-requires
label_in-requires c =
    let code = c.args.code.now in
    let i : PlainInst = plain_inst (get_or code.insts.now c.args.at c.index-code-at.result) in
    let there : slice_get (insts_of code) c.args.at ≡ Some i = inst_get code.insts.now c.args.at c.index-code-at.result
    c.requires.at in
    branch_labelled i.opcode (op_tells (insts_of code) c.args.at i is_branch there c.requires.op)

pub next_label-n-requires-clause-labelled : goal.next_label-n-requires-clause-labelled
next_label-n-requires-clause-labelled c =
    let code = c.args.code.now in
    let i : PlainInst = plain_inst (get_or code.insts.now c.args.at c.index-code-at.result) in
    let there : slice_get (insts_of code) c.args.at ≡ Some i = inst_get code.insts.now c.args.at c.index-code-at.result
    c.requires.at in
    branch_labelled i.opcode (op_tells (insts_of code) c.args.at i is_branch there c.requires.op)

pub mark_label-requires : goal.mark_label-requires
mark_label-requires c = λ G is.
    let code = c.args.code.now in
    let n = c.loop-n.n in
    let inst : Inst = get_or code.insts.now c.args.at c.index-code-at.result in
    let i : PlainInst = plain_inst inst in
    let there : slice_get (insts_of code) c.args.at ≡ Some i = inst_get code.insts.now c.args.at c.index-code-at.result
    c.requires.at in
    let made : IsMadeOf i i.opcode (plain_operands c.as_slice-operands.result.now) = record
    { of = refl; has = ap (λ (os : List Operand). plain_operands os) (sym c.as_slice-operands.ensures.value) } in
    record {
      branch = c.requires.op;
      operand = n;
      used = use_at G (insts_of code) c.args.at n c.in-Some.id Label i there
          (c.in-Some.ensures G i made (is.plan.fits c.args.at i there));
    }

pub loop-n-preserved-in-Some : goal.loop-n-preserved-in-Some
loop-n-preserved-in-Some c =
    marked_then c.args.code.now c.args.at c.args.marks.now c.loop-n.marks c.mark_label.new.marks c.loop-n.invariant
    c.mark_label.ensures
