use Rattle.std.proofs.Common.{arith}
use Rattle.spv_module.specs.Module.{plain_operands}
use Rattle.spv_flow.proofs.lemmas.branches.Places.{case_after, same_start, same_more}
use Rattle.spv_flow.proofs.branches.labels.next_case.Goals as goal

pub loop-next-init : goal.loop-next-init
loop-next-init c = record {
  further = omega arith;
  label = case_after c.args.n c.requires.label;
  same = same_start (plain_operands c.args.operands.now) c.args.n c.args.id c.requires.label;
}

pub loop-next-preserved : goal.loop-next-preserved
loop-next-preserved c =
    let l = c.loop-next.invariant in
    let low = l.further in
    record {
      further = omega (arith, low);
      label = case_after c.loop-next.next l.label;
      same = same_more (plain_operands c.args.operands.now) c.args.n c.loop-next.next c.args.id l.label
          (c.is_id_at.ensures c.if-not-is_id_at.false) l.same;
    }
