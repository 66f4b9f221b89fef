use Rattle.spv_graphs.proofs.Stepping.{keeps_on}
use Rattle.spv_graphs.proofs.ways.spread.Goals as goal

pub loop-preserved : goal.loop-preserved
loop-preserved c = keeps_on c.args.edges.now c.args.closed.now c.args.steps.now.items c.loop.steps.items c.follow.new.steps.items c.loop.invariant c.in_ok-follow.ensures
