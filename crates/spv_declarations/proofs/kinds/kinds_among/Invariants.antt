use Rattle.spv_declarations.specs.inner.Kinds.{AreKinds}
use Rattle.spv_declarations.specs.inner.Spans.{AreSpans}
use Rattle.spv_declarations.proofs.kinds.kinds_among.Given as goal

abbrev pub invariant-loop-number : goal.invariant-loop-number
invariant-loop-number l = record {
  kinds : AreKinds l.definitions l.number l.kinds;
  spans : AreSpans l.definitions l.number l.spans;
}
