use Rattle.spv_flow.specs.walks.inner.Code.{insts_of}
use Rattle.spv_flow.specs.walks.inner.Adds.{AddsBy}
use Rattle.spv_flow.specs.walks.inner.Divided.{IsIn}
use Rattle.spv_flow.specs.walks.inner.Due.{IsQueryAt}
use Rattle.spv_flow.proofs.lemmas.walks.Adding.{UpTo}
use Rattle.spv_flow.proofs.walks.queries.add_block.Given as goal

abbrev pub invariant-loop-at : goal.invariant-loop-at
invariant-loop-at l =
    AddsBy l.code (UpTo l.at (λ G j a. IsIn l.blocks.starts.now l.block j
    × IsQueryAt G (insts_of l.code) l.blocks.starts.now l.block j a)) l.fn.queries.items l.queries.items
