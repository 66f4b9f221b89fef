use Rattle.std.proofs.lemmas.Bool.{iff_false}
use Rattle.spv_form_evidence.specs.capabilities.Evidence.{IsEvidence}
use Rattle.spv_form_evidence.proofs.capabilities.model.capability.Goals as goal

pub returns-then-has : goal.returns-then-has
returns-then-has c = λ n h. IsEvidence.shader n h (c.has.ensures.0 c.if-has.true)

pub returns-else-has : goal.returns-else-has
returns-else-has c = λ n h.
    IsEvidence.no_kernel n h (λ k. c.requires (k, iff_false c.has.ensures c.if-has.false))
