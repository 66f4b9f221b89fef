use Rattle.std.proofs.Common.{◌≤◌, ◌-◌, take, drop, length, arith}
use Rattle.spv_interfaces.proofs.Missing.{places_all, places_more, places_none}
use Rattle.spv_interfaces.proofs.Naming.{part_back, part_length}
use Rattle.spv_interfaces.proofs.lacking.place_by_all.Goals as goal

pub loop-at-init : goal.loop-at-init
loop-at-init c = record {
  within = omega arith;
  first = λ G minor used. places_none G minor c.args.definitions.now c.args.variables.now c.args.entries.now;
}

pub loop-at-preserved : goal.loop-at-preserved
loop-at-preserved c =
    let is = c.args.definitions.now in
    let variables = c.args.variables.now in
    let entries = c.args.entries.now in
    let at = c.loop-at.at in
    let to = c.min-to.result in
    let n = to - at in
    let m = c.min-to.ensures in
    let t = c.loop-at-test.true in
    let a : at ≤ to = omega (arith, m, t) in
    let b : to ≤ length variables = omega (arith, m) in
    let w = c.in_ok-place.ensures.within in
    let v = c.loop-at.invariant.within in
    record {
      within = omega (arith, w, v);
      first = λ G minor used.
          places_more G minor is variables entries (take n (drop at variables)) at to c.loop-at.place
          c.in_ok-place.place (part_back variables at n) (part_length variables at to a b)
          (c.loop-at.invariant.first G minor used) (c.in_ok-place.ensures.first G minor used);
    }

pub returns : goal.returns
returns c = λ G minor used.
    places_all G minor c.args.definitions.now c.args.variables.now c.args.entries.now c.loop-at.at c.loop-at.place
    c.loop-at-test.false (c.loop-at.invariant.first G minor used)
