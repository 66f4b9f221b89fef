use Rattle.std.proofs.Common.{◌<◌, ◌∙◌, ℕ, get_or, length, sym, arith}
use Rattle.std.proofs.lemmas.Bool.{false≢true}
use Rattle.std.proofs.lemmas.Option.{slice_get-get_or}
use Rattle.spv_flow.proofs.lemmas.calls.Lists.{each_more}
use Rattle.spv_interfaces.specs.inner.Lacking.{IsLacking}
use Rattle.spv_interfaces.proofs.Missing.{place_here, place_past}
use Rattle.spv_interfaces.proofs.lacking.first_place.Goals as goal

pub loop-at-init : goal.loop-at-init
loop-at-init c = λ k n l h. absurd (omega (arith, l))

pub is_lacking-requires : goal.is_lacking-requires
is_lacking-requires c =
    let entries = c.args.entries.now in
    let i = c.loop-at.at in
    let l = c.loop-at-test.true in
    let r = c.requires.to in
    c.requires.within i (get_or entries i 0) (slice_get-get_or entries i 0 (omega (arith, l, r)))

pub returns-then-is_lacking : goal.returns-then-is_lacking
returns-then-is_lacking c =
    let entries = c.args.entries.now in
    let i = c.loop-at.at in
    let l = c.loop-at-test.true in
    let r = c.requires.to in
    place_here (IsLacking c.args.definitions.now c.args.reached.now c.args.named.now) entries c.args.to i
    (get_or entries i 0) l (slice_get-get_or entries i 0 (omega (arith, l, r)))
    (c.is_lacking.ensures.0 c.if-is_lacking.true) c.loop-at.invariant

pub loop-at-preserved : goal.loop-at-preserved
loop-at-preserved c =
    let entries = c.args.entries.now in
    let i = c.loop-at.at in
    let l = c.loop-at-test.true in
    let r = c.requires.to in
    let within : i < length entries = omega (arith, l, r) in
    each_more (λ (k n : ℕ). ¬ (IsLacking c.args.definitions.now c.args.reached.now c.args.named.now n)) entries i 0
    within c.loop-at.invariant (λ s. false≢true (sym c.if-is_lacking.false ∙ c.is_lacking.ensures.1 s))

pub returns : goal.returns
returns c = place_past (IsLacking c.args.definitions.now c.args.reached.now c.args.named.now) c.args.entries.now
    c.args.to c.loop-at.at c.loop-at-test.false c.loop-at.invariant
