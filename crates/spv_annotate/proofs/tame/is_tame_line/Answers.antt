use Rattle.std.proofs.Common.{◌∙◌, ap, sym}
use Rattle.std.specs.List.{list_all}
use Rattle.spv_annotate.specs.inner.Tame.{is_tame_octet}
use Rattle.spv_annotate.proofs.tame.is_tame_line.Goals as goal

pub returns : goal.returns
returns c = λ h. ap (list_all is_tame_octet) (sym c.as_bytes.ensures.value) ∙ (sym c.are_tame.ensures ∙ h)
