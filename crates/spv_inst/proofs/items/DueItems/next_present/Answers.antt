use Rattle.std.proofs.Common.{subst}
use Rattle.spv_table.specs.inner.Pattern.{EndsOptional}
use Rattle.spv_inst.proofs.Patterns.{ends_later}
use Rattle.spv_inst.proofs.items.DueItems.next_present.Goals as goal

pub invariant_of-items : goal.invariant_of-items
invariant_of-items c = record {
  ends = ends_later c.args.self.optional c.in-Some.item.now c.in-Some.left.now
      (subst (EndsOptional c.args.self.optional) c.in-Some.ensures.cases.0 c.args.self.ends);
}
