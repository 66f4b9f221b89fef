use Rattle.std.proofs.Common.{arith, refl}
use Rattle.std.specs.Prelude.{slice_index}
use Rattle.spv_views.proofs.Beginnings.{on_begin, on_end, on_step}
use Rattle.spv_views.proofs.beginning.place_of.Goals as goal

pub loop-left-init : goal.loop-left-init
loop-left-init c = λ G rule n h. on_begin G c.args.image.now rule c.args.inst n h

pub returns-then-at-count : goal.returns-then-at-count
returns-then-at-count c = λ G rule n h.
    let words = c.args.image.now in
    let at = c.loop-left.at in
    let m = on_step G words rule c.loop-left.left at (slice_index words at)
    (c.loop-left.invariant G rule n h) c.loop-left-test.true refl in
    let w = m.within in
    let e = c.len-count.ensures.words in
    let t = c.if-at-count.true in
    absurd (omega (arith, w, e, t))

pub loop-left-preserved : goal.loop-left-preserved
loop-left-preserved c = λ G rule n h.
    (on_step G c.args.image.now rule c.loop-left.left c.loop-left.at c.word.result
    (c.loop-left.invariant G rule n h) c.loop-left-test.true c.word.ensures).way

pub returns : goal.returns
returns c = λ G rule n h.
    let t = c.loop-left-test.false in
    on_end G c.args.image.now rule c.loop-left.left c.loop-left.at (c.loop-left.invariant G rule n h) (omega (arith, t))
