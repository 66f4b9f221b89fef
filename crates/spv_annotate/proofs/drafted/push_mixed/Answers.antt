use Rattle.std.proofs.Common.{◌≡◌, ◌++◌, ◌+◌, ◌∙◌, List, ℕ, ap, refl, string_bytes, subst, take}
use Rattle.std.specs.Prelude.{IfOk}
use Rattle.spv_annotate.specs.declared.linked.Quoting.TheVariants.{Commented}
use Rattle.spv_annotate.specs.Page.{linked}
use Rattle.spv_annotate.specs.inner.Numbers.{kept}
use Rattle.spv_annotate.proofs.Fronts.{front_ends, front_plain}
use Rattle.spv_annotate.proofs.drafted.push_mixed.Goals as goal

pub range_from-rest-requires : goal.range_from-rest-requires
range_from-rest-requires c = λ _.
    let d = kept c.args.definitions.now in
    let text = c.args.text.now in
    let n = c.add_lead-count.result in
    let new = c.add_lead-count.new.buffer in
    let v = c.as_bytes.ensures.value in
    let f = front_plain d text n c.args.at c.args.buffer.now new (rw v at c.add_lead-count.ensures.copied) in
    front_ends d text n c.args.at (c.args.at + n) c.args.buffer.now new c.utf8.text f

pub push_drafted-requires-clause-utf8 : goal.push_drafted-requires-clause-utf8
push_drafted-requires-clause-utf8 c =
    let d = kept c.args.definitions.now in
    let text = c.args.text.now in
    let n = c.add_lead-count.result in
    let new = c.add_lead-count.new.buffer in
    let v = c.as_bytes.ensures.value in
    let f = front_plain d text n c.args.at c.args.buffer.now new (rw v at c.add_lead-count.ensures.copied) in
    f.utf8 c.requires.utf8

pub returns-clause-text : goal.returns-clause-text
returns-clause-text c =
    let d = kept c.args.definitions.now in
    let text = c.args.text.now in
    let n = c.add_lead-count.result in
    let new = c.add_lead-count.new.buffer in
    let v = c.as_bytes.ensures.value in
    let f = front_plain d text n c.args.at c.args.buffer.now new (rw v at c.add_lead-count.ensures.copied) in
    let e = ap (λ z. take (c.args.at + n) new ++ linked d Commented z) c.range_from-rest.ensures.value
    ∙ f.all Commented refl in
    subst (λ (z : List ℕ). IfOk c.push_drafted.result (λ end. string_bytes c.push_drafted.new.out
    ++ take end c.push_drafted.new.buffer ≡ string_bytes c.args.out.now ++ z)) e c.push_drafted.ensures.text
