use Rattle.std.proofs.Common.{◌≡◌, ℕ, length, subst, arith}
use Rattle.std.proofs.lemmas.Option.{slice_get-get_or}
use Rattle.spv_interfaces.specs.inner.Cleared.{Clears, IsCalledBefore}
use Rattle.spv_interfaces.proofs.Clearing.{calls_more, calls_none}
use Rattle.spv_interfaces.proofs.cleared.clear_calls.Goals as goal

pub loop-call-init : goal.loop-call-init
loop-call-init c = calls_none c.args.calls.now c.args.words.now.items

pub loop-call-preserved : goal.loop-call-preserved
loop-call-preserved c =
    let calls = c.args.calls.now in
    let i = c.loop-call.call-index in
    calls_more calls i _ c.args.words.now.items c.loop-call.words.items c.clear.new.words.items
    (slice_get-get_or calls i _ c.loop-call-test.true) c.loop-call.invariant c.clear.ensures

pub returns : goal.returns
returns c =
    let calls = c.args.calls.now in
    let t = c.loop-call-test.false in
    let u = c.loop-call.auto.call-index-end in
    let e : c.loop-call.call-index ≡ length calls = omega (arith, t, u) in
    subst (λ (n : ℕ). Clears (IsCalledBefore calls n) c.args.words.now.items c.loop-call.words.items) e
    c.loop-call.invariant
