use Rattle.std.proofs.Common.{◌≡◌, ◌+◌, drop, refl, sym, ◌∙◌, arith}
use Rattle.spv_standard.specs.inner.Silent.{silent_front}
use Rattle.spv_standard.proofs.Silences.{front_ends, front_goes_on}
use Rattle.spv_standard.proofs.silent.silent_front.Goals as goal

pub returns-then-not-is_form_silent : goal.returns-then-not-is_form_silent
returns-then-not-is_form_silent c =
    let fs = c.args.forms.now in
    let none = front_ends fs c.loop-count.count _ c.loop-count-test.true (sym c.if-not-is_form_silent.ensures) in
    let kept : c.loop-count.count + silent_front (drop c.loop-count.count fs) ≡ silent_front fs =
    c.loop-count.invariant in
    omega (arith, none, kept)

pub loop-count-preserved : goal.loop-count-preserved
loop-count-preserved c =
    let fs = c.args.forms.now in
    let more = front_goes_on fs c.loop-count.count (c.loop-count.count + 1) _ c.loop-count-test.true refl
    (sym c.is_form_silent.ensures ∙ c.if-not-is_form_silent.false) in
    let kept : c.loop-count.count + silent_front (drop c.loop-count.count fs) ≡ silent_front fs =
    c.loop-count.invariant in
    omega (arith, more, kept)
