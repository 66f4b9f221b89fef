use Rattle.std.proofs.Common.{◌≡◌, ◌∙◌, ◌↔◌, ℕ, List, ap, subst, get_or, length, arith}
use Rattle.std.proofs.lemmas.Option.{slice_get-get_or}
use Rattle.spv_interfaces.specs.declared.used.Use.{Use}
use Rattle.spv_interfaces.specs.inner.Marks.{HasBit, IsMissing, word_of}
use Rattle.spv_interfaces.proofs.Marking.{missing_more, missing_none}
use Rattle.spv_interfaces.proofs.marks.Marks.missing.Goals as goal

pub loop-found-init : goal.loop-found-init
loop-found-init c = λ k l. missing_none c.args.self.now.reached.items c.args.self.now.named.items c.args.uses.now k

pub loop-found-preserved : goal.loop-found-preserved
loop-found-preserved c = λ k l.
    let reached = c.args.self.now.reached.items in
    let named = c.args.self.now.named.items in
    let uses = c.args.uses.now in
    let i = c.loop-found.found-index in
    let d : Use = record { function = 0; variable = 0 } in
    let u = get_or uses i d in
    missing_more reached named uses i c.loop-found.missing c.word_at-reached.result c.word_at.result u
    (slice_get-get_or uses i d c.loop-found-test.true)
    (c.word_at-reached.ensures ∙ ap (λ (ws : List ℕ). word_of ws u.function) c.as_slice.ensures.value)
    (c.word_at.ensures ∙ ap (λ (ws : List ℕ). word_of ws u.variable) c.as_slice-in-loop-found.ensures.value)
    c.word_at.type_inv k l (c.loop-found.invariant k l)

pub returns : goal.returns
returns c = λ k l.
    let reached = c.args.self.now.reached.items in
    let named = c.args.self.now.named.items in
    let uses = c.args.uses.now in
    let t = c.loop-found-test.false in
    let u = c.loop-found.auto.found-index-end in
    let e : c.loop-found.found-index ≡ length uses = omega (arith, t, u) in
    subst (λ (n : ℕ). HasBit c.loop-found.missing k ↔ IsMissing reached named uses n k) e (c.loop-found.invariant k l)
