use Rattle.std.proofs.Common.{◌≡◌, ◌-◌, ◌∙◌, arith, ap, sym}
use Rattle.std.specs.Prelude.{take}
use Rattle.spv_annotate.proofs.Cuts.{cut_floor}
use Rattle.spv_annotate.proofs.short.cut.Goals as goal

pub returns : goal.returns
returns c =
    let f = c.floor_char_boundary in
    let e = cut_floor c.args.name.now c.args.most f.result c.requires f.ensures.bound f.ensures.boundary
    f.ensures.nearest in
    let z : f.result - 0 ≡ f.result = omega arith in
    c.range.ensures.value ∙ (ap (λ k. take k c.args.name.now) z ∙ ap (λ k. take k c.args.name.now) (sym e))
