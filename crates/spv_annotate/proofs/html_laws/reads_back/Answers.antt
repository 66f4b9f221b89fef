use Rattle.spv_annotate.proofs.Reading.{reads_escaped}
use Rattle.spv_annotate.proofs.html_laws.reads_back.Goals as goal

pub returns : goal.returns
returns c = reads_escaped
