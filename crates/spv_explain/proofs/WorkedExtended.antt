-- A call of OpenCL.std that has too few operands, looked at and not.
use Rattle.std.proofs.Common.{◌≡◌, ◌∙◌, ℕ, Some, true, false, ap, refl, sym, arith}
use Rattle.std.specs.Prelude.{Option, unwrap_or, option_map}
use Rattle.spv_table.specs.Table.{Table}
use Rattle.spv_module.specs.declared.fault.Rule.{Rule}
use Rattle.spv_module.specs.declared.fault.Rule.TheVariants.{Y9}
use Rattle.spv_extended.specs.Call.{call_at}
use Rattle.spv_extended.specs.Facts.{facts_of}
use Rattle.spv_extended.specs.Reach.{looked_at}
use Rattle.spv_extended.specs.declared.call.Call.{Call}
use Rattle.spv_extended.specs.declared.reach.Reach.TheVariants.{Profile, Extended}
use Rattle.spv_extended.specs.declared.set.Set.TheVariants.{OpenClStd}
use Rattle.spv_evidence.specs.declared.evidence.Evidence.{Evidence}
use Rattle.spv_evidence.specs.declared.evidence.Evidence.TheVariants.{Miscalled}
use Rattle.spv_form_evidence.specs.extended.Evidence as extended
use Rattle.spv_form_evidence.specs.extended.Evidence.{IsOutside}
use Rattle.spv_explain.specs.Evidence.{IsEvidence}
use Rattle.spv_explain.specs.Example.{short_call}
use Rattle.spv_explain.proofs.Sufficing.{of_extended_alone}

abbrev call_with : ℕ → ℕ → Call
call_with number count = record { set = OpenClStd; number = number; operands = count }

called : call_at (looked_at Extended short_call) 2 ≡ Some (call_with 171 2)
unfolding facts_of
called = refl

pub short_shown : (G : Table) (bound : ℕ)
    → IsEvidence G Extended bound (looked_at Extended short_call) Y9 2 (Miscalled 171 2 (Some 3) (Some 3))
unfolding facts_of
short_shown G bound =
    IsEvidence.of_extended Y9 2 _ refl (extended.IsEvidence.miscalled 2 171 2 called
    (IsOutside.fewer 3 (Some 3) (omega arith)))

counted : (r : Rule) (n : ℕ) (e : Evidence) → extended.IsEvidence (looked_at Extended short_call) r n e → n ≡ 2
    → e ≡ Miscalled 171 1 (Some 3) (Some 3) → ⊥
counted _ _ _ (extended.IsEvidence.miscalled n number count at out) k m =
    let there : call_at (looked_at Extended short_call) 2 ≡ Some (call_with number count) = rw k at at in
    let same : Some (call_with number count) ≡ Some (call_with 171 2) = sym there ∙ called in
    let two : count ≡ 2 = ap (λ (o : Option Call). unwrap_or (option_map (λ c. c.operands) o) 0) same in
    let one : count ≡ 1 = cc in
    omega (arith, one, two)

pub other_count_not_shown : (G : Table) (bound : ℕ)
    → ¬ (IsEvidence G Extended bound (looked_at Extended short_call) Y9 2 (Miscalled 171 1 (Some 3) (Some 3)))
other_count_not_shown G bound h =
    counted Y9 2 _ (of_extended_alone G Extended bound (looked_at Extended short_call) Y9 2 _ h refl).shows refl refl

pub by_profile_not_shown : (G : Table) (bound : ℕ) (e : Evidence)
    → ¬ (IsEvidence G Profile bound (looked_at Profile short_call) Y9 2 e)
by_profile_not_shown G bound e h =
    let on : false ≡ true = (of_extended_alone G Profile bound (looked_at Profile short_call) Y9 2 e h refl).on in
    absurd cc
