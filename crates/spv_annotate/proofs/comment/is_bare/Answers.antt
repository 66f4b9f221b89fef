use Rattle.std.proofs.Common.{◌∙◌, ap, length, sym}
use Rattle.spv_module.specs.Module.{plain_inst}
use Rattle.spv_annotate.specs.inner.Values.{value_in}
use Rattle.spv_annotate.proofs.Noteless.{no_notes}
use Rattle.spv_annotate.proofs.Small.{zero_by}
use Rattle.spv_annotate.proofs.comment.is_bare.Goals as goal

pub returns : goal.returns
returns c = λ is k h.
    let v = value_in c.args.known.now.values c.args.at in
    let z = ap length (sym c.of.ensures) ∙ zero_by (length c.of.result.now) (sym c.is_empty.ensures ∙ h) in
    no_notes is v c.args.at (plain_inst c.args.inst.now) (c.is_nameless.ensures is k c.if-not-is_nameless.false)
    c.if-inst-eq-EXT_INST.false c.if-inst-eq-LABEL.false z
