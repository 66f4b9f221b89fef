use Rattle.std.proofs.Common.{◌<◌, ◌≤◌, ◌≡◌, ap, arith}
use Rattle.spv_graphs.specs.declared.steps.Step.{Step}
use Rattle.spv_graphs.specs.inner.Steps.{unknown, level_of, AreSteps}
use Rattle.spv_graphs.proofs.Stepping.{first_is, falling, way_none, way_shortest}
use Rattle.spv_graphs.proofs.ways.shortest_way.Goals as goal

pub returns : goal.returns
returns c =
    let edges = c.args.edges.now in
    let starts = c.args.starts.now in
    let closed = c.args.closed.now in
    let steps = c.settle.new.steps.items in
    let goal = c.args.goal in
    let first = first_is edges starts closed c.in_ok-steps.steps.items c.requires.few c.in_ok-steps.ensures in
    let a : AreSteps edges starts closed steps = c.in_ok-settle.ensures.keeps.kept starts first in
    let e : c.step_at.result.level ≡ level_of steps goal = ap (λ (x : Step). x.level) (rw c.deref.ensures.value at c.step_at.ensures) in
    let l : unknown ≤ level_of steps goal = omega arith in
    way_none edges starts closed steps goal a c.in_ok-settle.ensures.settled l

pub trace-requires-clause-falling : goal.trace-requires-clause-falling
trace-requires-clause-falling c =
    let edges = c.args.edges.now in
    let starts = c.args.starts.now in
    let closed = c.args.closed.now in
    let steps = c.settle.new.steps.items in
    let first = first_is edges starts closed c.in_ok-steps.steps.items c.requires.few c.in_ok-steps.ensures in
    let a : AreSteps edges starts closed steps = c.in_ok-settle.ensures.keeps.kept starts first in
    rw c.deref-then-step_at-lt-UNKNOWN.ensures.value (falling edges starts closed steps a)

pub returns-then-step_at-lt-UNKNOWN : goal.returns-then-step_at-lt-UNKNOWN
returns-then-step_at-lt-UNKNOWN c =
    let edges = c.args.edges.now in
    let starts = c.args.starts.now in
    let closed = c.args.closed.now in
    let steps = c.settle.new.steps.items in
    let goal = c.args.goal in
    let nodes = c.in_ok-trace.field-0.items in
    let first = first_is edges starts closed c.in_ok-steps.steps.items c.requires.few c.in_ok-steps.ensures in
    let a : AreSteps edges starts closed steps = c.in_ok-settle.ensures.keeps.kept starts first in
    let e : c.step_at.result.level ≡ level_of steps goal = ap (λ (x : Step). x.level) (rw c.deref.ensures.value at c.step_at.ensures) in
    let l : level_of steps goal < unknown = omega arith in
    let t = rw c.deref-then-step_at-lt-UNKNOWN.ensures.value at c.in_ok-trace.ensures in
    way_shortest edges starts closed steps goal nodes a c.in_ok-settle.ensures.settled l t
