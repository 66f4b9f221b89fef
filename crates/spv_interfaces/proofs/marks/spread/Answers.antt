use Rattle.std.proofs.Common.{length}
use Rattle.spv_flow.specs.calls.inner.Graph.{AreWithin}
use Rattle.spv_interfaces.specs.inner.Marks.{IsOpen}
use Rattle.spv_interfaces.proofs.Marking.{grows_on, open_grows, open_less}
use Rattle.spv_interfaces.proofs.marks.spread.Goals as goal

pub loop-call-smaller : goal.loop-call-smaller
loop-call-smaller c =
    let calls = c.args.calls.now in
    let old = c.loop-call.words.items in
    let mid = c.follow.new.words.items in
    let new = c.follow_all.new.words.items in
    let o : IsOpen calls old c.in-Some.call = rw c.deref.ensures.value at c.in-Some.ensures in
    let within : AreWithin (length old) calls = rw c.loop-call.invariant.rises.count c.requires in
    open_less calls old mid new c.in-Some.call within o c.follow.ensures.adds c.follow.ensures.rises
    c.follow_all.ensures.rises

pub loop-call-preserved : goal.loop-call-preserved
loop-call-preserved c =
    let calls = c.args.calls.now in
    let old = c.loop-call.words.items in
    let mid = c.follow.new.words.items in
    let new = c.follow_all.new.words.items in
    let o : IsOpen calls old c.in-Some.call = rw c.deref.ensures.value at c.in-Some.ensures in
    grows_on calls c.args.words.now.items old new c.loop-call.invariant
    (open_grows calls old mid new c.in-Some.call o c.follow.ensures.adds c.follow.ensures.rises c.follow_all.ensures)

pub returns-clause-closed : goal.returns-clause-closed
returns-clause-closed c = rw c.deref.ensures.value at c.in_default.ensures
