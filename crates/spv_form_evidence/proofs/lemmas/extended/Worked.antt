-- The worked examples.
use Rattle.std.proofs.Common.{◌≡◌, ℕ, [], Some, None, refl, arith}
use Rattle.spv_module.specs.declared.fault.Rule.{Rule}
use Rattle.spv_module.specs.declared.fault.Rule.TheVariants.{Y9}
use Rattle.spv_extended.specs.Example.{call}
use Rattle.spv_extended.specs.Facts.{facts_of}
use Rattle.spv_extended.proofs.Missing.{not_at}
use Rattle.spv_evidence.specs.declared.evidence.Evidence.{Evidence}
use Rattle.spv_evidence.specs.declared.evidence.Evidence.TheVariants.{Miscalled}
use Rattle.spv_form_evidence.specs.extended.Evidence.{IsEvidence, IsOutside}
use Rattle.spv_form_evidence.specs.extended.Example.{calling, one, two}
use Rattle.spv_form_evidence.proofs.lemmas.extended.Sufficing as sufficing

pub load : IsEvidence (calling 1 171 two) Y9 2 (Miscalled 171 2 (Some 3) (Some 3))
unfolding facts_of
load = IsEvidence.miscalled 2 171 2 refl (IsOutside.fewer 3 (Some 3) (omega arith))

apart : ¬ (Miscalled 171 2 (Some 3) (Some 3) ≡ Miscalled 171 2 (Some 4) (Some 4))
apart e =
    let three : ℕ = 3 in
    let four : ℕ = 4 in
    let same : Some three ≡ Some four = cc in
    let no : three ≡ four = cc in
    absurd (omega (arith, no))

pub not_so_few : ¬ (IsEvidence (calling 1 171 two) Y9 2 (Miscalled 171 2 (Some 4) (Some 4)))
not_so_few h = apart (sufficing.one (calling 1 171 two) Y9 2 _ _ load h)

pub printf : IsEvidence (calling 1 184 []) Y9 2 (Miscalled 184 0 (Some 1) None)
unfolding facts_of
printf = IsEvidence.miscalled 2 184 0 refl (IsOutside.fewer 1 None (omega arith))

pub no_number : IsEvidence (calling 1 111 one) Y9 2 (Miscalled 111 1 None None)
unfolding facts_of
no_number = IsEvidence.miscalled 2 111 1 refl IsOutside.no_inst

pub sound : (r : Rule) (e : Evidence) → ¬ (IsEvidence (calling 1 184 one) r 2 e)
unfolding facts_of
sound r e h = not_at (calling 1 184 one) 2 (call 1 184 one) refl refl (sufficing.miscall (calling 1 184 one) r 2 e h)
