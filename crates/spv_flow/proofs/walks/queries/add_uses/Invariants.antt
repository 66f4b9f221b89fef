use Rattle.spv_flow.specs.walks.inner.Code.{insts_of}
use Rattle.spv_flow.specs.walks.inner.Adds.{AddsBy}
use Rattle.spv_flow.specs.walks.inner.Due.{IsUseQuery}
use Rattle.spv_flow.proofs.lemmas.walks.Adding.{UpTo}
use Rattle.spv_flow.proofs.walks.queries.add_uses.Given as goal

abbrev pub invariant-loop-n : goal.invariant-loop-n
invariant-loop-n l = AddsBy l.code (UpTo l.n
    (λ G j a. IsUseQuery G (insts_of l.code) l.blocks.starts.now l.block l.at j a)) l.fn.queries.items l.queries.items
