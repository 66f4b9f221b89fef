use Rattle.std.proofs.Common.{◌≡◌, ◌<◌, ◌≤◌, ◌+◌, ◌-◌, inl, inr, length, get_or, ap, sym, ◌∙◌, arith}
use Rattle.std.proofs.lemmas.Bool.{cases_lt}
use Rattle.std.proofs.lemmas.List.{get_or_default}
use Rattle.std.proofs.lemmas.List.Sorted.{IsNonDecreasingBy-from_all_adjacent}
use Rattle.spv_table.specs.declared.table.Enumerant.{Enumerant}
use Rattle.spv_table.proofs.enumerant_list.are_ordered.Goals as goal

pub loop-enumerant-preserved : goal.loop-enumerant-preserved
loop-enumerant-preserved c =
    let es = c.args.enumerants.now in
    let i = c.loop-enumerant.enumerant-index in
    let x = c.enumerant-item.result in
    let inv = c.loop-enumerant.invariant in
    let within : i < length es = omega (arith, c.loop-enumerant-test.true) in
    let here : (d : Enumerant) → get_or es i d ≡ x = λ d. get_or_default es i d x within ∙ sym c.enumerant-item.is in
    let rises : c.loop-enumerant.last ≤ x.value = omega (arith, c.if-enumerant-last.false) in
    record {
      adjacent = λ k d h. elim (cases_lt (k + 1) i) [
        | inl l ↦ inv.adjacent k d l
        | inr g ↦ (let e : k + 1 ≡ i = omega (arith, g, h) in
            let back : k ≡ i - 1 = omega (arith, e) in
            let a = ap (λ n. (get_or es n d).value) back ∙ inv.last d (omega (arith, e)) in
            let b = ap (λ n. (get_or es n d).value) e ∙ ap (λ (y : Enumerant). y.value) (here d) in
            omega (arith, a, b, rises))
      ];
      last = λ d h. let e : i + 1 - 1 ≡ i = omega arith in ap (λ n. (get_or es n d).value) e ∙ ap (λ (y : Enumerant). y.value) (here d);
    }

pub returns : goal.returns
returns c = λ t.
    IsNonDecreasingBy-from_all_adjacent (λ (e : Enumerant). e.value) c.args.enumerants.now
    (λ k d h. c.loop-enumerant.invariant.adjacent k d (omega (arith, h, c.loop-enumerant-test.false)))
