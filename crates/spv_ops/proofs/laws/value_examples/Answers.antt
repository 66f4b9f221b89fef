use Rattle.std.proofs.Common.{◌≡◌, ℕ, List, [], ◌∷◌, refl}
use Rattle.spv_module.specs.Example.{small as table}
use Rattle.spv_ops.specs.Example.{to_member}
use Rattle.spv_type_forms.specs.Values.{used_in}
use Rattle.spv_ops.specs.Table.{lines}
use Rattle.spv_ops.proofs.ValuePlaces.{values_agree}
use Rattle.spv_ops.proofs.Worked.{chain_forms}
use Rattle.spv_ops.proofs.laws.value_examples.Goals as goal

pub returns-clause-chain : goal.returns-clause-chain
returns-clause-chain c = record { forms = _; has = chain_forms; values = refl }

differ : (xs : List ℕ) → xs ≡ 5 ∷ [] → xs ≡ 8 ∷ 5 ∷ [] → ⊥
differ xs a b = cc

pub returns-clause-not_first : goal.returns-clause-not_first
unfolding lines
returns-clause-not_first c =
    λ v. differ (used_in v.forms to_member.operands) v.values (values_agree table to_member v.forms v.has (λ e. cc))
