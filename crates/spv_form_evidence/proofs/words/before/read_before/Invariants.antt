use Rattle.spv_form_evidence.specs.words.inner.Before.{IsBefore}
use Rattle.spv_form_evidence.proofs.words.before.read_before.Given as goal

abbrev pub invariant-loop-number : goal.invariant-loop-number
invariant-loop-number l = IsBefore l.table l.image l.number l.at l.definitions
