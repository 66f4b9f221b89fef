use Rattle.std.proofs.Common.{◌≡◌, ◌++◌, ◌∙◌, List, ℕ, OnOk, Some, ap, arith, option_and_then, string_bytes, subst, sym}
use Rattle.std.proofs.lemmas.Grind.{common_steps}
use Rattle.spv_annotate.specs.Html.{escaped}
use Rattle.spv_annotate.specs.Page.{id_html, id_of, link_to}
use Rattle.spv_annotate.specs.inner.Numbers.{kept}
use Rattle.spv_annotate.proofs.Steadies.{id_escaped}
use Rattle.spv_annotate.proofs.linked.push_id.Goals as goal

pub returns-then-are_short : goal.returns-then-are_short
returns-then-are_short c = λ ds e.
    let word = c.args.word.now in
    let tail = c.args.tail.now in
    let k = kept c.args.definitions.now in
    let inst = c.in-Some.inst in
    let d : Some inst ≡ option_and_then k (id_of ds) = sym c.in-Some.is
    ∙ c.definition_in.ensures ds (c.as_bytes.ensures.value ∙ e) in
    let x : escaped word ≡ word = ap escaped e ∙ (id_escaped k ds inst d ∙ sym e) in
    let h : link_to inst word ≡ id_html (option_and_then k (id_of ds)) word = ap (link_to inst) (sym x)
    ∙ ap (λ o. id_html o word) d in
    let t : link_to inst word ++ tail ≡ id_html (option_and_then k (id_of ds)) word ++ escaped tail =
    ap (λ z. z ++ tail) h ∙ ap (λ z. id_html (option_and_then k (id_of ds)) word ++ z)
    (sym (c.are_short.ensures.plain c.if-are_short.true)) in
    subst (λ (z : List ℕ). OnOk c.push_short_link.result
    (string_bytes c.push_short_link.new.out ≡ string_bytes c.args.out.now ++ z)) t c.push_short_link.ensures

pub returns-in_default : goal.returns-in_default
returns-in_default c = grind (arith, common_steps)

pub returns : goal.returns
returns c = grind (arith, common_steps)
