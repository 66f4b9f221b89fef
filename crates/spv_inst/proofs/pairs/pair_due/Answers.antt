use Rattle.std.proofs.Common.{◌≡◌, ◌∙◌, refl, ap, arith, get_or}
use Rattle.spv_table.specs.Table.{kind_of}
use Rattle.spv_table.specs.declared.form.Leaf.TheVariants as leaf
use Rattle.spv_table.specs.declared.form.Form.TheVariants.{Leaf}
use Rattle.spv_table.specs.inner.Form.{form_at}
use Rattle.spv_module.specs.Shape.{alone, AsParts}
use Rattle.spv_inst.specs.inner.Pending.{slots_of}
use Rattle.spv_inst.proofs.Bases.{composed}
use Rattle.spv_inst.proofs.Couples.{two_of}
use Rattle.spv_inst.proofs.Shapes.{shape_leaf}
use Rattle.spv_inst.proofs.pairs.pair_due.Goals as goal

pub returns-in-Leaf-clause-due : goal.returns-in-Leaf-clause-due
returns-in-Leaf-clause-due c =
    let G = c.args.scene.now.table.now in
    let ks = c.bases.result.now in
    let p = c.in-Parts.paired in
    let k = composed G c.in-Some-kind.ensures.whole c.in-Some.kind p c.in-Some-kind.composite ks
    (c.in-Parts.ensures G c.requires.forms) c.in-Some-kind.ensures.kind c.bases.ensures in
    let least = c.in-len2.len_at_least in
    let most = c.in-len2.len_below in
    let e = two_of ks (omega (arith, least)) (omega (arith, most)) in
    let a = c.form_in-2.ensures G c.requires.forms in
    let b = c.in-Leaf-Id.is in
    let d = c.in-Leaf-Id.field-0-is in
    let f : form_at (kind_of G (get_or ks 1 0)) ≡ Leaf leaf.Id = cc in
    record {
      slot = alone c.in-Some.kind;
      repeated = c.in-Some.ensures;
      parts = λ x. k.shape x _ ∙ ap (λ zs. AsParts (slots_of p zs)) e;
      id = λ x. shape_leaf G x _ leaf.Id leaf.Id f refl;
    }
