use Rattle.std.proofs.Common.{[], map, take}
use Rattle.spv_module.specs.Module.{plain_inst}
use Rattle.spv_lines.specs.Text.{inst_line}
use Rattle.spv_printer.proofs.Chosen.{shown_at}
use Rattle.spv_printer.proofs.inst.push_at.Goals as goal

pub returns-clause-line : goal.returns-clause-line
returns-clause-line c = λ lines s.
    let insts = c.args.insts.now in
    let o = c.index-insts-at.result in
    let w = shown_at c.args.table.now [] insts lines c.args.at o o s c.requires.within c.index-insts-at.is in
    c.in_ok-push_inst.ensures.line (map plain_inst (take c.args.at insts)) w.further
    (inst_line lines c.args.at) c.in_ok-known.ensures.enough (rw c.as_slice-operands.ensures.value w.shown)

pub returns-clause-knows : goal.returns-clause-knows
returns-clause-knows c = rw c.push_inst.ensures.same c.in_ok-known.ensures.knows
