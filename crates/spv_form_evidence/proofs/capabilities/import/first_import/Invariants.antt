use Rattle.spv_form_evidence.specs.capabilities.inner.Imports.{AreNoImportsBefore}
use Rattle.spv_form_evidence.proofs.capabilities.import.first_import.Given as goal

abbrev pub invariant-loop-k : goal.invariant-loop-k
invariant-loop-k l = AreNoImportsBefore l.survey.insts l.linkage l.number l.k
