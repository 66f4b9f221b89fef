use Rattle.std.proofs.Common.{◌++◌, ◌<◌, ◌≤◌, length, map, take, append-nil, arith}
use Rattle.std.proofs.lemmas.List.{take_all}
use Rattle.spv_module.specs.Module.{plain_inst}
use Rattle.spv_printer.proofs.Chosen.{knows_more}
use Rattle.spv_printer.proofs.inst.add_all.Goals as goal

pub loop-inst-init : goal.loop-inst-init
loop-inst-init c = λ before k. rw (append-nil before) k

pub loop-inst-preserved : goal.loop-inst-preserved
loop-inst-preserved c = λ before k.
    let insts = c.args.insts.now in
    let i = c.loop-inst.inst-index in
    let o = c.inst-item.result in
    let h : i < length insts = omega arith in
    knows_more _ before insts i o h c.inst-item.is
    (rw c.as_slice.ensures.value at (c.in_ok-add.ensures.knows (before ++ map plain_inst (take i insts))
    (c.loop-inst.invariant before k)))

pub returns : goal.returns
returns c = λ before k.
    let insts = c.args.insts.now in
    let h : length insts ≤ c.loop-inst.inst-index = omega arith in
    rw (take_all c.loop-inst.inst-index insts h) at (c.loop-inst.invariant before k)
