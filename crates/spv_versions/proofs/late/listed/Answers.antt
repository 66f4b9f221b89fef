use Rattle.std.proofs.Common.{◌<◌, length, below_more, arith}
use Rattle.spv_versions.proofs.Low.{ArePlaced, all_placed, placed_here, placed_more}
use Rattle.spv_versions.proofs.late.listed.Goals as goal

pub loop-place-preserved : goal.loop-place-preserved
loop-place-preserved c =
    let ns = c.args.numbers.now.numbers in
    let new = c.set_listed.new.words in (
      c.set_listed.array_long,
      below_more (ArePlaced ns new) c.loop-place.place
          (λ p l. placed_more ns c.loop-place.words new p c.set_listed.ensures.others (c.loop-place.invariant.1 p l))
          (placed_here ns new c.loop-place.place c.low_bits.result c.kinds.result.now _ c.kinds.ensures
          c.low_bits.ensures (λ j v at l.
          let within : j < length c.loop-place.words = omega (arith, l, c.loop-place.invariant.0) in
          c.set_listed.ensures.own j v at within)),
    )

pub returns : goal.returns
returns c = λ flags j v l small h.
    let within : j < 64 = omega (arith, l, c.loop-place.invariant.0) in
    all_placed flags c.args.numbers.now.numbers c.loop-place.words c.loop-place.place c.loop-place-test.false
    c.loop-place.invariant.1 j v within small h
