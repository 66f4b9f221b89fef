use Rattle.spv_flow.proofs.lemmas.calls.Lists.{found}
use Rattle.spv_interfaces.proofs.Marking.{grows_by, grows_not, grows_on}
use Rattle.spv_interfaces.proofs.marks.follow_in_order.Goals.{in-Some, in_default}
use Rattle.spv_interfaces.proofs.marks.follow_in_order.Goals as goal

pub loop-place-init : goal.loop-place-init
loop-place-init c = grows_not c.args.calls.now c.args.words.now.items

pub loop-place-preserved : goal.loop-place-preserved
loop-place-preserved c =
    let calls = c.args.calls.now in
    let old = c.loop-place.words.items in
    elim c.match-get.branch [
      | in-Some w ↦
          let call = w.in-Some.call.now in
          let l = w.in-Some.ensures.lookup in
          let h = found calls _ call l.3.0 l.1 in
          rw w.words-is (grows_on calls c.args.words.now.items old w.follow.new.words.items c.loop-place.invariant
          (grows_by calls old w.follow.new.words.items _ call h w.follow.ensures.adds w.follow.ensures.rises))
      | in_default w ↦ rw w.words-is c.loop-place.invariant
    ]
