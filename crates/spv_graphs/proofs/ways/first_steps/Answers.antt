use Rattle.std.proofs.lemmas.Grind.{common_steps, elements}
use Rattle.std.proofs.Common.{◌≡◌, ◌<◌, ap, take, get_or, length, arith}
use Rattle.std.proofs.lemmas.Option.{slice_get-get_or}
use Rattle.spv_graphs.specs.declared.steps.Step.{Step}
use Rattle.spv_graphs.specs.inner.Steps.{level_of}
use Rattle.spv_graphs.proofs.Beginning.{first_again, first_push, one_more}
use Rattle.spv_graphs.proofs.ways.first_steps.Goals.{then-step_at-gt0+in_ok-push_back, else-step_at-gt0}
use Rattle.spv_graphs.proofs.ways.first_steps.Goals as goal

pub loop-start-preserved : goal.loop-start-preserved
loop-start-preserved c =
    let starts = c.args.starts.now in
    let i = c.loop-start.start-index in
    let old = c.loop-start.steps.items in
    let b = get_or starts i 0 in
    let a = c.loop-start.invariant in
    let level : c.step_at.result.level ≡ level_of old b = ap (λ (x : Step). x.level) (rw c.deref.ensures.value at c.step_at.ensures) in
    elim c.if-step_at-gt0.branch [
      | then-step_at-gt0+in_ok-push_back w ↦
          let n = a.count in
          let k = c.requires.each i b (slice_get-get_or starts i 0 c.loop-start-test.true) in
          let within : b < length old = omega arith in
          let above : 0 < level_of old b = omega arith in
          rw w.steps-is (one_more c.args.count starts i _ c.loop-start-test.true (first_push c.args.count (take i starts) old b a within above))
      | else-step_at-gt0 w ↦
          let z : level_of old b ≡ 0 = omega arith in
          rw w.steps-is (one_more c.args.count starts i old c.loop-start-test.true (first_again c.args.count (take i starts) old b a z))
    ]

pub loop-start-init : goal.loop-start-init
loop-start-init c = grind (arith, common_steps)

pub returns : goal.returns
returns c = grind (arith, common_steps)

pub index_mut-requires : goal.index_mut-requires
index_mut-requires c = grind (arith, elements)
