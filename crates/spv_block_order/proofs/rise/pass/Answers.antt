use Rattle.std.proofs.Common.{get_or, eq-eqb, sym, ◌∙◌, arith}
use Rattle.spv_module.specs.declared.opcode.TheConstants as opcode
use Rattle.spv_module.specs.Module.{plain_inst}
use Rattle.spv_flow.specs.branches.Target.{is_label}
use Rattle.spv_flow.specs.branches.inner.Target.{is_terminator}
use Rattle.spv_flow.specs.walks.inner.Code.{insts_of}
use Rattle.spv_flow.proofs.lemmas.branches.Labelled.{inst_get, op_holds}
use Rattle.spv_block_order.proofs.Rising.{past_other, not_end, low_end}
use Rattle.spv_block_order.proofs.rise.pass.Goals as goal

pub returns-then-opcode-lt-LABEL : goal.returns-then-opcode-lt-LABEL
returns-then-opcode-lt-LABEL c =
    let code = c.args.code.now in
    let at = c.args.at in
    let i = plain_inst (get_or code.insts.now at c.index-code-at.result) in
    let there = inst_get code.insts.now at c.index-code-at.result c.requires.at in
    let low = c.if-opcode-lt-LABEL.true in
    past_other code c.args.function at c.args.rising c.args.marks.now.items i there (λ e. omega (arith, e, low))
    (low_end (insts_of code) at i there low) c.requires.of c.requires.risen

pub pass_label-requires-clause-op : goal.pass_label-requires-clause-op
pass_label-requires-clause-op c =
    let code = c.args.code.now in
    let at = c.args.at in
    let i = plain_inst (get_or code.insts.now at c.index-code-at.result) in
    op_holds (insts_of code) at i is_label (inst_get code.insts.now at c.index-code-at.result c.requires.at)
    (eq-eqb i.opcode opcode.LABEL c.if-opcode-eq-LABEL.true)

pub pass_terminator-requires-clause-op : goal.pass_terminator-requires-clause-op
pass_terminator-requires-clause-op c =
    let code = c.args.code.now in
    let at = c.args.at in
    let i = plain_inst (get_or code.insts.now at c.index-code-at.result) in
    op_holds (insts_of code) at i is_terminator (inst_get code.insts.now at c.index-code-at.result c.requires.at)
    (sym c.is_terminator.ensures ∙ c.if-is_terminator.true)

pub returns : goal.returns
returns c =
    let code = c.args.code.now in
    let at = c.args.at in
    let i = plain_inst (get_or code.insts.now at c.index-code-at.result) in
    let there = inst_get code.insts.now at c.index-code-at.result c.requires.at in
    past_other code c.args.function at c.args.rising c.args.marks.now.items i there c.if-opcode-eq-LABEL.false
    (not_end (insts_of code) at i there (sym c.is_terminator.ensures ∙ c.if-is_terminator.false)) c.requires.of
    c.requires.risen
