use Rattle.std.proofs.Common.{◌≡◌, ◌<◌, length, map, arith}
use Rattle.std.proofs.lemmas.Bool.{iff_false}
use Rattle.std.proofs.lemmas.List.{length-map}
use Rattle.spv_module.specs.Module.{plain_inst}
use Rattle.spv_layout.proofs.Misfits.{inst_there}
use Rattle.spv_form_evidence.proofs.lemmas.capabilities.Calling.{one_more, none_at_all}
use Rattle.spv_form_evidence.proofs.capabilities.entry.first_call.Goals as goal

pub returns-then-calls : goal.returns-then-calls
returns-then-calls c =
    let i = c.index-insts-number.result in
    let l : c.loop-number.number < length c.args.insts.now = omega arith in
    record {
      call = plain_inst i;
      there = inst_there c.args.insts.now c.loop-number.number i l c.index-insts-number.is;
      called = c.calls.ensures.0 c.if-calls.true;
    }

pub loop-number-preserved : goal.loop-number-preserved
loop-number-preserved c =
    let i = c.index-insts-number.result in
    let l : c.loop-number.number < length c.args.insts.now = omega arith in
    let t = inst_there c.args.insts.now c.loop-number.number i l c.index-insts-number.is in
    let not = iff_false c.calls.ensures c.if-calls.false in
    let is = map plain_inst c.args.insts.now in
    one_more is c.args.function c.loop-number.number (plain_inst i) c.loop-number.invariant t not

pub returns : goal.returns
returns c =
    let is = map plain_inst c.args.insts.now in
    let m = length-map c.args.insts.now plain_inst in
    let e : c.loop-number.number ≡ length is = omega (arith, m) in
    none_at_all is c.args.function c.loop-number.number e c.loop-number.invariant
