use Rattle.std.proofs.Common.{◌++◌, ◌≤◌, ◌∙◌, [], ap, arith, length, string_bytes}
use Rattle.spv_printer.proofs.Chosen.{none_past}
use Rattle.spv_printer.proofs.inst.push_chosen.Goals as goal

pub returns-then-at-insts-clause-line : goal.returns-then-at-insts-clause-line
returns-then-at-insts-clause-line c = λ lines s.
    let h : length c.args.insts.now ≤ c.args.at = omega arith in
    let feed = c.in_ok-push.ensures.bytes ∙ ap (λ z. string_bytes c.args.out.now ++ z)
    (c.in_ok-push.ensures.ascii (omega arith)) in
    rw (none_past c.args.table.now [] c.args.insts.now lines c.args.at s h) feed
