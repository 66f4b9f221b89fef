use Rattle.spv_flow.proofs.branches.laws.not_ready.Goals as goal

pub returns : goal.returns
returns c = record {
  value = λ G is n m r. m.undefined (r.uses m.other m.function m.past m.operand m.id m.role m.walk m.used m.local);
  pair = λ G is n m r. m.undefined (r.pairs m.phi m.value m.parent m.before m.pair m.comes m.local);
}
