use Rattle.std.proofs.Common.{◌≡◌, ℕ, length, subst, arith}
use Rattle.std.proofs.lemmas.Option.{slice_get-get_or}
use Rattle.spv_interfaces.specs.inner.Turned.{AreTurnedOf}
use Rattle.spv_interfaces.proofs.Turning.{turned_more, turned_none}
use Rattle.spv_interfaces.proofs.turned.turn_all.Goals as goal

pub loop-call-init : goal.loop-call-init
loop-call-init c = rw c.new-turned.ensures.items (turned_none c.args.calls.now c.args.live.now)

pub loop-call-preserved : goal.loop-call-preserved
loop-call-preserved c =
    let calls = c.args.calls.now in
    let i = c.loop-call.call-index in
    turned_more calls c.args.live.now i _ c.loop-call.turned.items c.turn.new.turned.items
    (slice_get-get_or calls i _ c.loop-call-test.true) c.in_ok-turn.ensures c.loop-call.invariant

pub returns : goal.returns
returns c =
    let calls = c.args.calls.now in
    let t = c.loop-call-test.false in
    let u = c.loop-call.auto.call-index-end in
    let e : c.loop-call.call-index ≡ length calls = omega (arith, t, u) in
    subst (λ (n : ℕ). AreTurnedOf calls c.args.live.now n c.loop-call.turned.items) e c.loop-call.invariant
