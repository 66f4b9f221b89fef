use Rattle.std.proofs.Common.{◌≡◌, ℕ, List, get_or, refl, ap, arith}
use Rattle.serde_json.proofs.OnLiterals.{serde_json_on_literals}
use Rattle.spv_builtin.proofs.laws.text_examples.Goals as goal

-- the octets of a space and of an opening bracket differ
octets_differ : ◌≡◌ {A = ℕ} 32 91 → ⊥
octets_differ e = omega arith

pub returns-clause-holds : goal.returns-clause-holds
unfolding serde_json_on_literals
returns-clause-holds c = record { compact = refl; reads_back = refl }

pub returns-clause-fails : goal.returns-clause-fails
unfolding serde_json_on_literals
returns-clause-fails c = λ h. octets_differ (ap (λ (l : List ℕ). get_or l 16 0) h.compact)
