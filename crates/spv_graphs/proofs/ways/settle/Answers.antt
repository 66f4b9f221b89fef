use Rattle.std.proofs.lemmas.Grind.{common_steps}
use Rattle.std.proofs.Common.{◌<◌, length, arith}
use Rattle.spv_graphs.specs.inner.Steps.{IsShorter, come}
use Rattle.spv_graphs.proofs.Stepping.{keeps_on, keeps_by}
use Rattle.spv_graphs.proofs.ways.settle.Goals as goal

pub loop-edge-preserved : goal.loop-edge-preserved
loop-edge-preserved c =
    let edges = c.args.edges.now in
    let closed = c.args.closed.now in
    let old = c.loop-edge.steps.items in
    let edge = c.in-Some.edge in
    let s : IsShorter edges closed old edge = rw c.deref.ensures.value at c.in-Some.ensures in
    let to = (c.requires.each s.place edge s.there).1 in
    let n = c.loop-edge.invariant.count in
    let within : edge.to < length old = omega arith in
    rw c.step_along.ensures (keeps_on edges closed c.args.steps.now.items old (come old edge) c.loop-edge.invariant (keeps_by edges closed old s.place edge s.there within s.shortens))

pub loop-edge-smaller : goal.loop-edge-smaller
loop-edge-smaller c = grind (arith, common_steps)

pub returns-clause-settled : goal.returns-clause-settled
returns-clause-settled c = rw c.deref.ensures.value at c.in_default.ensures
