use Rattle.spv_pictures.proofs.Framed.{block_frame}
use Rattle.spv_pictures.proofs.Retold.{call_frame}
use Rattle.spv_pictures.proofs.laws.frames.Goals as goal

pub returns : goal.returns
returns c = record { blocks = block_frame; calls = call_frame }
