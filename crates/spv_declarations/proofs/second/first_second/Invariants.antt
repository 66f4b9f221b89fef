use Rattle.spv_declarations.specs.inner.Second.{AreLeast, AreApart}
use Rattle.spv_declarations.proofs.second.first_second.Given as goal

abbrev pub invariant-loop-number : goal.invariant-loop-number
invariant-loop-number l = record {
  restricted : AreLeast l.definitions 19 l.number l.restricted;
  aliased : AreLeast l.definitions 20 l.number l.aliased;
  apart : AreApart l.restricted l.aliased;
}
