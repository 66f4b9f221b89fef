use Rattle.std.proofs.Common.{arith}
use Rattle.spv_pictures.proofs.Looked.{block_more}
use Rattle.spv_pictures.proofs.marks.blocks_of.Goals as goal

pub loop-block-preserved : goal.loop-block-preserved
loop-block-preserved c =
    λ x. block_more c.args.walk.now c.loop-block.block-index x _ _ (omega arith) (c.loop-block.invariant x)
    (c.in_ok-insert.ensures.updates.0 x)
