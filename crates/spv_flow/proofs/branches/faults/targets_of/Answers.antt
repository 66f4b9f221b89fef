use Rattle.std.proofs.Common.{◌≡◌, Some, get_or, ap}
use Rattle.std.specs.Prelude.{slice_get}
use Rattle.spv_module.specs.Operand.{PlainInst}
use Rattle.spv_module.specs.Module.{plain_inst}
use Rattle.spv_flow.specs.branches.inner.Code.{insts_of}
use Rattle.spv_flow.specs.branches.inner.Labels.{is_labelled, is_jump}
use Rattle.spv_flow.specs.branches.Target.{is_branch, is_conditional}
use Rattle.spv_flow.proofs.lemmas.branches.Labelled.{inst_get, op_holds}
use Rattle.spv_flow.proofs.lemmas.branches.Firsts.{op_moved}
use Rattle.spv_flow.proofs.lemmas.branches.Places.{branch_labelled}
use Rattle.spv_flow.proofs.branches.faults.targets_of.Goals as goal

pub conditional_targets-requires-clause-op : goal.conditional_targets-requires-clause-op
conditional_targets-requires-clause-op c =
    let code = c.args.code.now in
    let i : PlainInst = plain_inst (get_or code.insts.now c.args.at c.index-code-at.result) in
    let there : slice_get (insts_of code) c.args.at ≡ Some i = inst_get code.insts.now c.args.at c.index-code-at.result
    c.requires.at in
    op_holds (insts_of code) c.args.at i is_conditional there (ap is_conditional c.if-opcode-eq-BRANCH_CONDITIONAL.true)

pub jump_targets-requires-clause-op : goal.jump_targets-requires-clause-op
jump_targets-requires-clause-op c =
    let code = c.args.code.now in
    let i : PlainInst = plain_inst (get_or code.insts.now c.args.at c.index-code-at.result) in
    let there : slice_get (insts_of code) c.args.at ≡ Some i = inst_get code.insts.now c.args.at c.index-code-at.result
    c.requires.at in
    op_holds (insts_of code) c.args.at i is_jump there (ap is_jump c.if-opcode-eq-BRANCH.true)

pub targets_by_operand-requires-clause-op : goal.targets_by_operand-requires-clause-op
targets_by_operand-requires-clause-op c =
    op_moved (insts_of c.args.code.now) c.args.at is_branch is_labelled branch_labelled c.requires.op
