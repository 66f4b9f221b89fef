use Rattle.std.proofs.Common.{◌≡◌, arith}
use Rattle.spv_rules.specs.inner.Held.{parts}
use Rattle.spv_rules.proofs.table.part_at.Goals as goal

pub returns-in-0 : goal.returns-in-0
unfolding parts
returns-in-0 c = rw c.in-0.is c.word_rows.ensures.same

pub returns-in-1 : goal.returns-in-1
unfolding parts
returns-in-1 c = rw c.in-1.is c.instruction_rows.ensures.same

pub returns-in-2 : goal.returns-in-2
unfolding parts
returns-in-2 c = rw c.in-2.is c.order_rows.ensures.same

pub returns-in-3 : goal.returns-in-3
unfolding parts
returns-in-3 c = rw c.in-3.is c.entry_rows.ensures.same

pub returns-in-4 : goal.returns-in-4
unfolding parts
returns-in-4 c = rw c.in-4.is c.type_rows.ensures.same

pub returns-in-5 : goal.returns-in-5
unfolding parts
returns-in-5 c = rw c.in-5.is c.flow_rows.ensures.same

pub returns-in_default : goal.returns-in_default
unfolding parts
returns-in_default c = let e : c.args.part ≡ 6 = omega arith in rw e c.standard_rows.ensures.same
