use Rattle.spv_annotate.proofs.PageReading.{reads_pieces}
use Rattle.spv_annotate.proofs.page_laws.page_reads_back.Goals as goal

pub returns : goal.returns
returns c = reads_pieces
