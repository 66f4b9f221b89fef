use Rattle.spv_flow.specs.declared.branches.fork.Fork.TheVariants.{Distinct}
use Rattle.spv_layer_tests.proofs.layers.cycle_of.Goals as goal

pub number-requires-clause-plan : goal.number-requires-clause-plan
number-requires-clause-plan c = (c.args.table.now, c.in_ok-plan.ensures.plan)

pub check_branches-requires-clause-known : goal.check_branches-requires-clause-known
check_branches-requires-clause-known c = (c.args.table.now, c.in_ok-plan.ensures.plan, c.in_ok-ids.ensures.ids c.args.table.now c.in_ok-plan.ensures.plan)

pub check_values-requires-clause-known : goal.check_values-requires-clause-known
check_values-requires-clause-known c = (
  Distinct,
  c.args.table.now,
  c.in_ok-plan.ensures.plan,
  c.in_ok-ids.ensures.ids c.args.table.now c.in_ok-plan.ensures.plan,
  c.in_ok-check_branches.ensures.unbroken c.args.table.now c.in_ok-plan.ensures.plan (c.in_ok-ids.ensures.ids c.args.table.now c.in_ok-plan.ensures.plan),
)

pub first_cycle-requires-clause-plan : goal.first_cycle-requires-clause-plan
first_cycle-requires-clause-plan c = (c.args.table.now, c.in_ok-plan.ensures.plan)

pub first_cycle-requires-clause-ids : goal.first_cycle-requires-clause-ids
first_cycle-requires-clause-ids c = (c.in_ok-ids.ensures.ids c.args.table.now c.in_ok-plan.ensures.plan).each
