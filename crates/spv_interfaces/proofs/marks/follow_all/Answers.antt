use Rattle.std.proofs.lemmas.Option.{slice_get-get_or}
use Rattle.spv_interfaces.proofs.Marking.{grows_by, grows_not, grows_on}
use Rattle.spv_interfaces.proofs.marks.follow_all.Goals as goal

pub loop-call-init : goal.loop-call-init
loop-call-init c = grows_not c.args.calls.now c.args.words.now.items

pub loop-call-preserved : goal.loop-call-preserved
loop-call-preserved c =
    let calls = c.args.calls.now in
    let old = c.loop-call.words.items in
    let new = c.follow.new.words.items in
    grows_on calls c.args.words.now.items old new c.loop-call.invariant
    (grows_by calls old new c.loop-call.call-index _
    (slice_get-get_or calls c.loop-call.call-index _ c.loop-call-test.true) c.follow.ensures.adds
    c.follow.ensures.rises)
