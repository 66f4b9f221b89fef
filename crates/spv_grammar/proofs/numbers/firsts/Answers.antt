use Rattle.std.proofs.Common.{◌≡◌, Bool, true, false, map, take, length, position, sym, ap, ◌∙◌, arith}
use Rattle.std.proofs.lemmas.List.{take_all}
use Rattle.spv_grammar.specs.Kinds.{bears, first_kinds}
use Rattle.spv_grammar.specs.declared.numbers.First.{First}
use Rattle.spv_grammar.proofs.Firsts.{next_first, pushed_first, is_at}
use Rattle.spv_grammar.proofs.numbers.firsts.Goals as goal
use Rattle.spv_grammar.proofs.numbers.firsts.Goals.{then-eq+in_ok-push, else-eq}

pub loop-place-preserved : goal.loop-place-preserved
loop-place-preserved c =
    let ks = c.args.kinds.now in
    let i = c.loop-place.place in
    let k = c.index-kinds-place.result in
    let old = c.loop-place.invariant in
    let few = old.few in
    let seen = λ (f : First). f.kind.now in
    let place : c.place.result ≡ position (bears k.name) ks = c.place.ensures ∙ ap (λ name. position (bears name) ks) c.as_str.ensures in
    let at : is_at i (position (bears k.name) ks) ≡ c.eq.result = ap (is_at i) (sym place) ∙ sym c.eq.ensures in
    let next = λ (b : Bool) (is : c.eq.result ≡ b). next_first ks i k b c.loop-place-test.true c.index-kinds-place.is (at ∙ is) in
    elim c.if-eq.branch [ then-eq+in_ok-push w ↦ (let p = pushed_first c.loop-place.firsts.items c.if-eq.firsts.items _ (first_kinds (take i ks)) (ap (λ v. v.items) w.firsts-is ∙ w.in_ok-push.ensures.items) old.firsts in record { firsts = p.kinds ∙ sym (next true w.if-eq.true); few = omega (arith, p.long) }) | else-eq w ↦ record { firsts = ap (λ v. map seen v.items) w.firsts-is ∙ old.firsts ∙ sym (next false w.if-eq.false); few = omega (arith, ap (λ v. length v.items) w.firsts-is) } ]

pub returns-clause-firsts : goal.returns-clause-firsts
returns-clause-firsts c = c.loop-place.invariant.firsts ∙ ap first_kinds (take_all c.loop-place.place c.args.kinds.now c.loop-place-test.false)

pub returns-clause-few : goal.returns-clause-few
returns-clause-few c =
    let few = c.loop-place.invariant.few in
    let within = c.loop-place.auto.place-end in
    omega arith
