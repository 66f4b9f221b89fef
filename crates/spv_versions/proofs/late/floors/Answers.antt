use Rattle.std.proofs.Common.{◌<◌, length, below_more, arith}
use Rattle.spv_versions.proofs.Floors.{ArePlaced, all_floors, placed_here, placed_lower}
use Rattle.spv_versions.proofs.late.floors.Goals as goal

pub loop-place-preserved : goal.loop-place-preserved
loop-place-preserved c =
    let ns = c.args.numbers.now.numbers in
    let least = c.args.missing.now.least in
    let new = c.lower_floor.new.floors in (
      c.lower_floor.array_long,
      below_more (ArePlaced ns least new) c.loop-place.place
          (λ p l. placed_lower ns least c.loop-place.floors new p c.lower_floor.ensures.others
          (c.loop-place.invariant.1 p l))
          (placed_here ns least new c.loop-place.place c.least_of.result c.kinds.result.now _ c.kinds.ensures
          c.least_of.ensures (λ j at l.
          let within : j < length c.loop-place.floors = omega (arith, l, c.loop-place.invariant.0) in
          c.lower_floor.ensures.own j at within)),
    )

pub returns : goal.returns
returns c = λ all j v is_mask l h.
    let within : j < 64 = omega (arith, l, c.loop-place.invariant.0) in
    all_floors c.args.missing.now.lines c.args.numbers.now.numbers c.args.missing.now.least c.loop-place.floors
    c.loop-place.place c.loop-place-test.false c.loop-place.invariant.1 all j v is_mask within h
