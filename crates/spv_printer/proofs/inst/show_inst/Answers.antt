use Rattle.std.proofs.Common.{◌≤◌, [], ap, length, arith}
use Rattle.spv_printer.proofs.Chosen.{none_past}
use Rattle.spv_printer.proofs.inst.show_inst.Goals as goal

pub returns-then-at-insts : goal.returns-then-at-insts
returns-then-at-insts c = λ lines s.
    let items = c.args.module.now.insts.items in
    let v = ap length c.as_slice-insts.ensures.value in
    let h : length items ≤ c.args.number = omega (arith, v) in
    rw (none_past c.args.table.now [] items lines c.args.number s h) c.new-out.ensures.bytes

pub returns : goal.returns
returns c = λ lines s. rw c.new-out.ensures.bytes at
    (c.in_ok-push_at.ensures.line lines (rw c.as_slice-insts.ensures.value s))
