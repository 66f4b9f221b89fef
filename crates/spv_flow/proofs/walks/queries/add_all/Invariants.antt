use Rattle.spv_flow.specs.walks.inner.Code.{insts_of}
use Rattle.spv_flow.specs.walks.inner.Adds.{AddsBy}
use Rattle.spv_flow.specs.walks.inner.Due.{IsQueryIn}
use Rattle.spv_flow.proofs.lemmas.walks.Adding.{UpTo}
use Rattle.spv_flow.proofs.walks.queries.add_all.Given as goal

abbrev pub invariant-loop-block : goal.invariant-loop-block
invariant-loop-block l =
    AddsBy l.code (UpTo l.block (λ G b a. IsQueryIn G (insts_of l.code) l.blocks.starts.now b a)) l.fn.queries.items
    l.queries.items
