use Rattle.std.proofs.Common.{◌≤◌, ◌∙◌, ap, arith, length, sym}
use Rattle.std.specs.List.{list_all}
use Rattle.spv_annotate.specs.inner.Tame.{is_single}
use Rattle.spv_annotate.proofs.Plains.{single_same}
use Rattle.spv_annotate.proofs.short.is_told_whole.Goals as goal

pub returns : goal.returns
returns c = λ h.
    let name = c.args.name.now in
    let few = c.if-name-gt-MOST.false in
    let l : length name ≤ 40 = omega (arith, few) in
    single_same name l (ap (list_all is_single) (sym c.as_bytes.ensures.value) ∙ (sym c.are_single.ensures ∙ h))
