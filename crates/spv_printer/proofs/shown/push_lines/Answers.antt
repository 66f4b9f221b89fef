use Rattle.std.proofs.Common.{◌<◌, ◌≤◌, ◌∙◌, ap, arith, List, length, map, take, get_or, string_bytes}
use Rattle.spv_module.specs.declared.module.Inst.{Inst}
use Rattle.spv_module.specs.Module.{plain_inst}
use Rattle.spv_printer.proofs.Texts.{lines_first, lines_step, lines_done, insts_more}
use Rattle.spv_printer.proofs.shown.push_lines.Goals as goal

pub loop-inst-init : goal.loop-inst-init
loop-inst-init c = record {
  knows = c.in_ok-printer.ensures.knows;
  shown = λ lines s. lines_first c.args.table.now c.args.module.now.insts.items lines (string_bytes c.args.out.now) s;
  ready = c.in_ok-printer.ensures.ready;
}

pub loop-inst-preserved : goal.loop-inst-preserved
loop-inst-preserved c =
    let insts = c.args.module.now.insts.items in
    let i = c.loop-inst.inst-index in
    let o = c.inst-item.result in
    let h : i < length insts = omega arith in
    let e = c.inst-item.is ∙ ap (λ (xs : List Inst). get_or xs i o) c.deref-inst-items.ensures.value in
    let v = c.as_slice-operands.ensures.value in
    let k = rw v at (c.in_ok-push_listed.ensures.knows (map plain_inst (take i insts)) c.loop-inst.invariant.knows) in
    record {
      knows = rw (insts_more insts i o o h e) k;
      shown = λ lines s.
          lines_step c.args.table.now insts lines (string_bytes c.args.out.now) (string_bytes c.loop-inst.out)
          (string_bytes c.push_listed.new.out) i o o (c.loop-inst.invariant.shown lines s) h e
          (λ further line l. c.in_ok-push_listed.ensures.line
          (map plain_inst (take i insts)) further line c.loop-inst.invariant.knows (rw v l));
      ready = c.in_ok-push_listed.ensures.ready;
    }

pub returns : goal.returns
returns c = λ lines s.
    let h : length c.args.module.now.insts.items ≤ c.loop-inst.inst-index = omega arith in
    lines_done c.args.table.now c.args.module.now.insts.items lines
    (string_bytes c.args.out.now) _ c.loop-inst.inst-index (c.loop-inst.invariant.shown lines s) h
