use Rattle.spv_interfaces.specs.inner.Counted.{AreRest}
use Rattle.spv_interfaces.proofs.Counting.{AreKnown}
use Rattle.spv_interfaces.proofs.counted.rest_of.Given as goal

abbrev pub invariant-loop-found : goal.invariant-loop-found
invariant-loop-found l = record {
  known : AreKnown l.all l.fn.counts.items l.counts.items l.rest.items;
  rest : AreRest l.uses l.fn.counts.items l.all l.found-index l.rest.items;
}
