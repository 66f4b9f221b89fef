use Rattle.std.proofs.lemmas.Grind.{elements}
use Rattle.std.proofs.Common.{◌<◌, refl, length, arith}
use Rattle.std.proofs.lemmas.Option.{slice_get_read}
use Rattle.spv_graphs.specs.inner.Steps.{Shortens, come}
use Rattle.spv_graphs.proofs.Stepping.{keeps_on, keeps_by}
use Rattle.spv_graphs.proofs.ways.follow.Goals.{in-Some+then-shortens+in_ok-push_back, in-Some+else-shortens, in_default}
use Rattle.spv_graphs.proofs.ways.follow.Goals as goal

pub loop-place-preserved : goal.loop-place-preserved
loop-place-preserved c = elim c.match-get.branch [
  | in-Some+then-shortens+in_ok-push_back w ↦
      let edges = c.args.edges.now in
      let closed = c.args.closed.now in
      let old = c.loop-place.steps.items in
      let edge = w.in-Some.edge.now in
      let l = w.in-Some.ensures.lookup in
      let h = slice_get_read edges (length edges) _ edge refl l.3.0 l.1 in
      let n = c.loop-place.invariant.count in
      let to = (c.requires.each _ edge h).1 in
      let within : edge.to < length old = omega arith in
      let s : Shortens closed old edge = rw w.deref.ensures.value at w.if-shortens.ensures in
      rw (w.steps-is, w.step_along.ensures) (keeps_on edges closed c.args.steps.now.items old (come old edge) c.loop-place.invariant (keeps_by edges closed old _ edge h within s))
  | in-Some+else-shortens w ↦ rw w.steps-is c.loop-place.invariant
  | in_default w ↦ rw w.steps-is c.loop-place.invariant
]

pub step_along-requires-clause-to : goal.step_along-requires-clause-to
step_along-requires-clause-to c = grind (arith, elements)
