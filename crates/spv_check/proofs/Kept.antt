-- A list on which no rule is broken keeps all that the layers demand, and the other way round.
use Rattle.std.proofs.Common.{◌≡◌, ◌⊎◌, ℕ, List, Some, refl, inl, inr}
use Rattle.std.specs.Prelude.{slice_get}
use Rattle.spv_table.specs.Table.{Table}
use Rattle.spv_module.specs.Operand.{PlainInst}
use Rattle.spv_module.specs.declared.profile.Profile.{Profile}
use Rattle.spv_module.specs.declared.fault.Rule.{Rule}
use Rattle.spv_module.specs.declared.fault.Rule.TheVariants.{P1, Y1}
use Rattle.spv_extended.specs.declared.reach.Reach.{Reach}
use Rattle.spv_extended.specs.Reach.{profile_of}
use Rattle.spv_layout.specs.Broken as layout
use Rattle.spv_layout.specs.DeadPlace.{IsDeadPlace}
use Rattle.spv_layout.specs.Layout.{IsLayout, seen_classes}
use Rattle.spv_layout.specs.Place.{IsShort}
use Rattle.spv_layout.specs.Plan.{IsLaidOut}
use Rattle.spv_layout.specs.Rows.{row_of}
use Rattle.spv_layout.specs.Profile.{FitsProfile, has_row}
use Rattle.spv_layout.specs.inner.Test.{fits_row}
use Rattle.spv_layout.proofs.Tested.{fits_iff}
use Rattle.spv_type_rules.specs.roles.Broken as roles
use Rattle.spv_check.specs.types.Broken as types
use Rattle.spv_check.specs.Broken.{Broken, IsSound}
use Rattle.spv_check.specs.Checked.{IsKept}
use Rattle.spv_check.specs.Program.{Program}
use Rattle.spv_check.proofs.Checks.{sound_of}
use Rattle.spv_check.proofs.Decided.{Decided, anew, both, held, is_true}
use Rattle.spv_check.proofs.RulesDecided.{plays_or_not, keeps}
use Rattle.spv_check.proofs.Capable.{capability_or_not}

fits_or_not : (p : Profile) (G : Table) (i : PlainInst) → Decided (FitsProfile p G i)
fits_or_not p G i =
    let same = fits_iff G i (row_of i.opcode) (fits_row G (row_of i.opcode) i.operands) refl refl in
    anew (λ h. record { known = h.0; shape = same.0 h.1 }) (λ f. (f.known, same.1 f.shape))
    (both (is_true (has_row p (row_of i.opcode))) (is_true (fits_row G (row_of i.opcode) i.operands)))

-- each list is laid out as a module, or dead at a place, and not both
pub record LayoutLaw : Type 0 where
  pub one : (p : Profile) (is : List PlainInst) → IsLayout (seen_classes p is)
      ⊎ ((a : Rule) × (k : ℕ) × IsDeadPlace p is a k)
  pub not_both : (p : Profile) (is : List PlainInst) (a : Rule) (k : ℕ) → IsLayout (seen_classes p is)
      → ¬ (IsDeadPlace p is a k)

fitting : (G : Table) (reach : Reach) (p : Program) → IsSound G reach p.bound p.insts → (n : ℕ) (i : PlainInst)
    → slice_get p.insts n ≡ Some i → FitsProfile (profile_of reach) G i
fitting G reach p s n i at =
    held (fits_or_not (profile_of reach) G i) (λ no. s P1 n (Broken.of_layout P1 n (layout.misfit i n at no)))

pub laid : LayoutLaw → (G : Table) (reach : Reach) (p : Program) → IsSound G reach p.bound p.insts
    → IsLaidOut (profile_of reach) G p.insts
laid law G reach p s = record {
  fits = fitting G reach p s;
  layout = elim (law.one (profile_of reach) p.insts) [
    | inl l ↦ l
    | inr d ↦ absurd (s d.0 d.1 (Broken.of_layout d.0 d.1 (layout.dead d.0 d.1 d.2)))
  ];
}

pub kept : LayoutLaw → (G : Table) (reach : Reach) (p : Program) → IsShort p.insts
    → IsSound G reach p.bound p.insts → IsKept G reach p
kept law G reach p few s = record {
  few = few;
  laid_out = laid law G reach p s;
  ids = λ r n e b. s r n (Broken.of_ids r n b);
  roles = record {
    each = λ n k x r u. held (plays_or_not p.insts r x)
        (λ no. s Y1 n (Broken.of_types Y1 n (types.of_roles Y1 n (roles.miscast n k x r u no))));
  };
  capabilities = λ r n i at. held (capability_or_not G p.insts r n i)
      (λ no. s r n (Broken.of_types r n (types.of_capabilities r n i at no)));
  rules = λ r n i at. keeps G p.insts r n i at (fitting G reach p s n i at).shape
      (λ no. s r n (Broken.of_types r n (types.of_types r n i at no)));
  types = (λ r n e b. s r n (Broken.of_types r n b), λ r n e b. s r n (Broken.of_types r n b));
  branches = λ r n e b. s r n (Broken.of_flow r n b);
  values = λ r n e b. s r n (Broken.of_flow r n b);
  calls = λ r n e b. s r n (Broken.of_calls r n b);
  extended = λ r n b. s r n (Broken.of_extended r n b);
  std_types = λ r n b. s r n (Broken.of_std_types r n b);
  standard = λ r n b. s r n (Broken.of_standard r n b);
}

no_layout : LayoutLaw → (G : Table) (reach : Reach) (p : Program) → IsKept G reach p → (q : Rule) (m : ℕ)
    → ¬ (layout.Broken (profile_of reach) G p.insts q m)
no_layout law G reach p k _ _ (layout.misfit i n at unfit) = unfit (k.laid_out.fits n i at)
no_layout law G reach p k _ _ (layout.dead r n d) = law.not_both (profile_of reach) p.insts r n k.laid_out.layout d

pub sound : LayoutLaw → (G : Table) (reach : Reach) (p : Program) → IsKept G reach p
    → IsSound G reach p.bound p.insts
sound law G reach p k = sound_of G reach p (no_layout law G reach p k) k
