use Rattle.std.proofs.Common.{ℕ, true, length, get_or, eq-eqb, refl, arith}
use Rattle.std.proofs.lemmas.List.{length-map}
use Rattle.std.proofs.lemmas.Option.{slice_get_within}
use Rattle.spv_module.specs.declared.opcode.TheConstants as opcode
use Rattle.spv_module.specs.Module.{plain_inst}
use Rattle.spv_layout.specs.Place.{IsOfFunction}
use Rattle.spv_flow.specs.branches.inner.Target.{is_function}
use Rattle.spv_flow.specs.walks.inner.Code.{insts_of}
use Rattle.spv_flow.proofs.lemmas.branches.Firsts.{holds}
use Rattle.spv_flow.proofs.lemmas.branches.Labelled.{inst_get, op_holds}
use Rattle.spv_flow.proofs.lemmas.walks.Starting.{open_start, open_more, extent_ended, extent_before, extent_last}
use Rattle.spv_block_order.proofs.Rising.{risen_first, open_by, late_to, past_other, low_end}
use Rattle.spv_block_order.proofs.rise.rise_of.Goals as goal

pub loop-at-init : goal.loop-at-init
loop-at-init c =
    let code = c.args.code.now in
    record {
      inside = open_start (insts_of code) c.args.function c.requires.function;
      risen = risen_first code c.args.function (record { live = true; whole = true }) c.args.marks.now.items
          c.requires.function c.requires.marks refl;
    }

pub loop-at-preserved-then-opcode-lt-LABEL : goal.loop-at-preserved-then-opcode-lt-LABEL
loop-at-preserved-then-opcode-lt-LABEL c =
    let code = c.args.code.now in
    let at = c.loop-at.at in
    let i = plain_inst (get_or code.insts.now at c.index-insts-at.result) in
    let there = inst_get code.insts.now at c.index-insts-at.result c.loop-at-test.true in
    let after = c.loop-at.auto.at in
    let low = c.if-opcode-gt-FUNCTION_END.true in
    let high = c.if-opcode-lt-LABEL.true in
    let of : IsOfFunction (insts_of code) at c.args.function =
    open_by (insts_of code) c.args.function at i c.requires.function c.loop-at.invariant.inside there
    (omega (arith, after)) (λ e. omega (arith, e, low)) in
    record {
      inside = open_more (insts_of code) c.args.function at i there (λ e. omega (arith, e, low))
          (λ e. omega (arith, e, low)) c.loop-at.invariant.inside;
      risen = past_other code c.args.function at c.loop-at.rising c.loop-at.marks.items i there
          (λ e. omega (arith, e, high)) (low_end (insts_of code) at i there high) of c.loop-at.invariant.risen;
    }

pub returns-then-opcode-eq-FUNCTION_END-clause-extent : goal.returns-then-opcode-eq-FUNCTION_END-clause-extent
returns-then-opcode-eq-FUNCTION_END-clause-extent c =
    let code = c.args.code.now in
    let at = c.loop-at.at in
    let i = plain_inst (get_or code.insts.now at c.index-insts-at.result) in
    let there = inst_get code.insts.now at c.index-insts-at.result c.loop-at-test.true in
    let from = c.loop-at.auto.at in
    extent_ended (insts_of code) c.args.function at i c.requires.function (omega (arith, from)) there
    c.if-opcode-eq-FUNCTION_END.true c.loop-at.invariant.inside

pub returns-then-opcode-eq-FUNCTION_END-clause-marks : goal.returns-then-opcode-eq-FUNCTION_END-clause-marks
returns-then-opcode-eq-FUNCTION_END-clause-marks c = λ m.
    let h = c.loop-at.invariant.risen.up_to m in omega (arith, h)

pub returns-then-opcode-eq-FUNCTION_END-clause-late : goal.returns-then-opcode-eq-FUNCTION_END-clause-late
returns-then-opcode-eq-FUNCTION_END-clause-late c = λ whole G s n from to.
    let code = c.args.code.now in
    let at = c.loop-at.at in
    let i = plain_inst (get_or code.insts.now at c.index-insts-at.result) in
    let there = inst_get code.insts.now at c.index-insts-at.result c.loop-at-test.true in
    let after = c.loop-at.auto.at in
    let e = c.if-opcode-eq-FUNCTION_END.true in
    let of : IsOfFunction (insts_of code) at c.args.function =
    open_by (insts_of code) c.args.function at i c.requires.function c.loop-at.invariant.inside there
    (omega (arith, after)) (λ f. omega (arith, e, f)) in
    late_to code c.args.function at c.loop-at.rising c.loop-at.marks.items i there (λ f. omega (arith, e, f)) of
    c.loop-at.invariant.risen whole G s n from to

pub returns-then-opcode-eq-FUNCTION-clause-extent : goal.returns-then-opcode-eq-FUNCTION-clause-extent
returns-then-opcode-eq-FUNCTION-clause-extent c =
    let code = c.args.code.now in
    let at = c.loop-at.at in
    let i = plain_inst (get_or code.insts.now at c.index-insts-at.result) in
    let there = inst_get code.insts.now at c.index-insts-at.result c.loop-at-test.true in
    let from = c.loop-at.auto.at in
    let next = op_holds (insts_of code) at i is_function there
    (eq-eqb i.opcode opcode.FUNCTION c.if-opcode-eq-FUNCTION.true) in
    extent_before (insts_of code) c.args.function at c.requires.function (omega (arith, from)) next
    c.loop-at.invariant.inside

pub returns-then-opcode-eq-FUNCTION-clause-marks : goal.returns-then-opcode-eq-FUNCTION-clause-marks
returns-then-opcode-eq-FUNCTION-clause-marks c = c.loop-at.invariant.risen.up_to

pub returns-then-opcode-eq-FUNCTION-clause-late : goal.returns-then-opcode-eq-FUNCTION-clause-late
returns-then-opcode-eq-FUNCTION-clause-late c = c.loop-at.invariant.risen.late

pub pass-requires-clause-of : goal.pass-requires-clause-of
pass-requires-clause-of c =
    let code = c.args.code.now in
    let at = c.loop-at.at in
    let i = plain_inst (get_or code.insts.now at c.index-insts-at.result) in
    let there = inst_get code.insts.now at c.index-insts-at.result c.loop-at-test.true in
    let after = c.loop-at.auto.at in
    open_by (insts_of code) c.args.function at i c.requires.function c.loop-at.invariant.inside there
    (omega (arith, after)) c.if-opcode-eq-FUNCTION.false

pub loop-at-preserved : goal.loop-at-preserved
loop-at-preserved c =
    let code = c.args.code.now in
    let at = c.loop-at.at in
    let i = plain_inst (get_or code.insts.now at c.index-insts-at.result) in
    let there = inst_get code.insts.now at c.index-insts-at.result c.loop-at-test.true in
    record {
      inside = open_more (insts_of code) c.args.function at i there c.if-opcode-eq-FUNCTION.false
          c.if-opcode-eq-FUNCTION_END.false c.loop-at.invariant.inside;
      risen = c.in_ok-rising.ensures;
    }

pub returns-clause-extent : goal.returns-clause-extent
returns-clause-extent c =
    let code = c.args.code.now in
    let n : ℕ = length code.insts.now in
    let l = length-map code.insts.now plain_inst in
    let end = c.loop-at-test.false in
    extent_last (insts_of code) c.args.function n c.loop-at.at c.requires.function (omega (arith, l)) end
    c.loop-at.invariant.inside

pub returns-clause-marks : goal.returns-clause-marks
returns-clause-marks c = λ m.
    let code = c.args.code.now in
    let f = holds (insts_of code) c.args.function is_function c.requires.function in
    let within = slice_get_within (insts_of code) c.args.function f.inst f.there in
    let l = length-map code.insts.now plain_inst in
    let end = c.loop-at.auto.at-end (omega (arith, within, l)) in
    let h = c.loop-at.invariant.risen.up_to m in
    omega (arith, h, end)

pub returns-clause-late : goal.returns-clause-late
returns-clause-late c = λ whole G s n from to.
    let end = c.loop-at-test.false in
    c.loop-at.invariant.risen.late whole G s n from (omega (arith, end, to))
