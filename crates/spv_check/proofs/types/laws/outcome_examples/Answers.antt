use Rattle.spv_check.proofs.Typing.Outcomes.{numbers_told, nothing_told, logical_refused, no_later}
use Rattle.spv_check.proofs.types.laws.outcome_examples.Goals as goal

pub returns : goal.returns
returns c = record { types = numbers_told; no_types = nothing_told; refusal = logical_refused; later = no_later }
