use Rattle.std.proofs.Common.{◌∙◌, ap, arith, length}
use Rattle.spv_annotate.proofs.Cuts.{beginning_short}
use Rattle.spv_annotate.proofs.short.fits.Goals as goal

pub room-requires : goal.room-requires
room-requires c =
    let l = ap length (c.as_bytes.ensures.value ∙ c.beginning.ensures) in
    let b = beginning_short c.args.most c.args.name.now in
    let r = c.requires in
    omega (arith, l, b, r)
