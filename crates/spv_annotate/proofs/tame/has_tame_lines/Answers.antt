use Rattle.std.proofs.Common.{◌∙◌, ap, sym}
use Rattle.std.specs.List.{list_all}
use Rattle.spv_annotate.specs.inner.Tame.{is_line_octet}
use Rattle.spv_annotate.proofs.Plains.{tame_lines}
use Rattle.spv_annotate.proofs.tame.has_tame_lines.Goals as goal

pub returns : goal.returns
returns c = λ h. tame_lines c.args.text.now
    (ap (list_all is_line_octet) (sym c.as_bytes.ensures.value) ∙ (sym c.are_line_octets.ensures ∙ h))
