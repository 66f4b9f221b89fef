use Rattle.spv_flow.specs.walks.inner.Leading.{AreInGraph}
use Rattle.spv_flow.proofs.walks.edges.build.Given as goal

abbrev pub invariant-loop-block : goal.invariant-loop-block
invariant-loop-block l = AreInGraph l.code l.blocks.starts.now l.graph l.block
