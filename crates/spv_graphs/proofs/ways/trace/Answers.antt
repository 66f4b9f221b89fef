use Rattle.std.proofs.Common.{◌<◌, ◌≡◌, ap, arith}
use Rattle.spv_graphs.specs.declared.steps.Step.{Step}
use Rattle.spv_graphs.specs.inner.Steps.{level_of}
use Rattle.spv_graphs.proofs.Beginning.{traced_on, traced_all}
use Rattle.spv_graphs.proofs.ways.trace.Goals as goal

pub loop-node-preserved : goal.loop-node-preserved
loop-node-preserved c =
    let steps = c.args.steps.now in
    let b = c.loop-node.node in
    let e : c.step_at.result.level ≡ level_of steps b = ap (λ (x : Step). x.level) c.step_at.ensures in
    let l : 0 < level_of steps b = omega arith in
    rw (c.in_ok-push.ensures.items, c.step_at-node.ensures) (traced_on steps c.args.goal c.loop-node.nodes.items b c.requires.falling c.loop-node.invariant l)

pub returns : goal.returns
returns c =
    let steps = c.args.steps.now in
    let b = c.loop-node.node in
    let e : c.step_at.result.level ≡ level_of steps b = ap (λ (x : Step). x.level) c.step_at.ensures in
    let z : level_of steps b ≡ 0 = omega arith in
    rw c.reverse.ensures.items (traced_all steps c.args.goal c.loop-node.nodes.items b c.loop-node.invariant z)
