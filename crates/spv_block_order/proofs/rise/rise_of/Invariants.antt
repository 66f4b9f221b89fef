use Rattle.spv_flow.specs.walks.inner.Code.{insts_of}
use Rattle.spv_flow.proofs.lemmas.walks.Starting.{IsOpenTo}
use Rattle.spv_block_order.specs.inner.Rising.{AreRisen}
use Rattle.spv_block_order.proofs.rise.rise_of.Given as goal

abbrev pub invariant-loop-at : goal.invariant-loop-at
invariant-loop-at l = record {
  inside : IsOpenTo (insts_of l.code) l.function l.at;
  risen : AreRisen l.code l.function l.at l.rising l.marks.items;
}
