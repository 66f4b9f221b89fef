use Rattle.std.proofs.Common.{map, get_or, length, arith, ◌≡◌, ◌+◌}
use Rattle.std.proofs.lemmas.List.{length-map}
use Rattle.spv_module.specs.Module.{plain_inst}
use Rattle.spv_flow.proofs.lemmas.branches.Labelled.{inst_get}
use Rattle.spv_run.proofs.Moving.{head_start, head_next, at_label, at_over, at_nothing}
use Rattle.spv_run.proofs.bodies.entry_of.Goals as goal

pub loop-at-init : goal.loop-at-init
loop-at-init c = head_start (map plain_inst c.args.insts.now) c.args.function (c.args.function + 1) (omega arith)

pub returns-then-opcode-eq-LABEL : goal.returns-then-opcode-eq-LABEL
returns-then-opcode-eq-LABEL c =
    at_label (map plain_inst c.args.insts.now) c.args.function c.loop-at.at
    (plain_inst (get_or c.args.insts.now c.loop-at.at c.index-insts-at.result))
    (omega (arith, c.loop-at.auto.at)) c.loop-at.invariant
    (inst_get c.args.insts.now c.loop-at.at c.index-insts-at.result c.loop-at-test.true) c.if-opcode-eq-LABEL.true

pub returns-then-opcode-eq-FUNCTION_END : goal.returns-then-opcode-eq-FUNCTION_END
returns-then-opcode-eq-FUNCTION_END c =
    at_over (map plain_inst c.args.insts.now) c.args.function c.loop-at.at
    (plain_inst (get_or c.args.insts.now c.loop-at.at c.index-insts-at.result))
    (omega (arith, c.loop-at.auto.at)) c.loop-at.invariant
    (inst_get c.args.insts.now c.loop-at.at c.index-insts-at.result c.loop-at-test.true)
    c.if-opcode-eq-FUNCTION_END.true

pub loop-at-preserved : goal.loop-at-preserved
loop-at-preserved c =
    head_next (map plain_inst c.args.insts.now) c.args.function c.loop-at.at
    (plain_inst (get_or c.args.insts.now c.loop-at.at c.index-insts-at.result)) c.loop-at.invariant
    (inst_get c.args.insts.now c.loop-at.at c.index-insts-at.result c.loop-at-test.true) c.if-opcode-eq-LABEL.false
    c.if-opcode-eq-FUNCTION_END.false

pub returns : goal.returns
returns c =
    let e : length (map plain_inst c.args.insts.now) ≡ length c.args.insts.now = length-map c.args.insts.now plain_inst
    in
    at_nothing (map plain_inst c.args.insts.now) c.args.function c.loop-at.at
    (omega (arith, e, c.loop-at-test.false)) c.loop-at.invariant
