use Rattle.spv_annotate.proofs.Reading.{harmless}
use Rattle.spv_annotate.proofs.html_laws.holds_no_tag.Goals as goal

pub returns : goal.returns
returns c = harmless
