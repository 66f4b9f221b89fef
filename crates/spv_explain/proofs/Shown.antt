-- What a finder hands out shows a fault.
use Rattle.std.proofs.Common.{◌≡◌, ℕ, List, refl, sym, subst, inl, inr}
use Rattle.std.specs.Prelude.{IfOk, IsTrue, Ok, Err}
use Rattle.std.specs.Prelude.{Result as Answer}
use Rattle.spv_table.specs.Table.{Table}
use Rattle.spv_module.specs.Operand.{PlainInst}
use Rattle.spv_module.specs.declared.fault.Fault.{Fault}
use Rattle.spv_module.specs.declared.fault.Rule.{Rule}
use Rattle.spv_module.specs.declared.fault.Rule.TheVariants as rule
use Rattle.spv_module.specs.declared.fault.Stop.{Stop}
use Rattle.spv_module.specs.declared.fault.Stop.TheVariants as stop
use Rattle.spv_extended.specs.Broken as extended_rule
use Rattle.spv_extended.specs.Miscalled.{IsMiscalled}
use Rattle.spv_extended.specs.declared.reach.Reach.{Reach}
use Rattle.spv_extended.specs.Reach.{opens, profile_of}
use Rattle.spv_std_types.specs.Broken as std_rule
use Rattle.spv_std_types.specs.Broken.{asks_types}
use Rattle.spv_std_types.specs.Mistyped.{IsMistyped}
use Rattle.spv_check.specs.Fork.{fork_of}
use Rattle.spv_layout.specs.Broken as broken
use Rattle.spv_layout.specs.Plan as plan
use Rattle.spv_evidence.specs.declared.evidence.Evidence.{Evidence}
use Rattle.spv_form_evidence.specs.layout.Evidence as layout
use Rattle.spv_form_evidence.specs.ids.Evidence as ids
use Rattle.spv_form_evidence.specs.ids.Roles as roles
use Rattle.spv_form_evidence.specs.capabilities.Evidence as capabilities
use Rattle.spv_form_evidence.specs.extended.Evidence as extended
use Rattle.spv_type_evidence.specs.types.Evidence as types
use Rattle.spv_operation_evidence.specs.Evidence as operations
use Rattle.spv_flow_evidence.specs.branches.Evidence as branches
use Rattle.spv_flow_evidence.specs.walks.Evidence as walks
use Rattle.spv_flow_evidence.specs.calls.Evidence as calls
use Rattle.spv_explain.specs.Evidence.{IsEvidence}
use Rattle.spv_explain.specs.Mistyped as mistyped
use Rattle.spv_explain.specs.Standard as standard
use Rattle.spv_explain.specs.inner.Shown.{IsShownAt}

pub role_shown : (G : Table) (reach : Reach) (bound : ℕ) (is : List PlainInst) (f : Fault) (e : Evidence)
    → f.rule ≡ rule.Y1 → roles.IsEvidence G is rule.Y1 f.inst e → IsShownAt G reach bound is f e
role_shown G reach bound is f e one h =
    λ s. IsEvidence.of_roles f.rule f.inst e (subst (λ r. roles.IsEvidence G is r f.inst e) (sym one) h)

pub capability_shown : {E : Type 0} (G : Table) (reach : Reach) (bound : ℕ) (is : List PlainInst) (f : Fault)
    (r : Answer Evidence E) → IfOk r (λ e. capabilities.IsEvidence G is f.rule f.inst e)
    → IfOk r (λ e. IsShownAt G reach bound is f e)
capability_shown G reach bound is f (Ok e) h = λ s. IsEvidence.of_capabilities f.rule f.inst e h
capability_shown G reach bound is f (Err _) h = tt

pub type_shown : (G : Table) (reach : Reach) (bound : ℕ) (is : List PlainInst) (f : Fault) (e : Evidence)
    → types.IsEvidence G is f.rule f.inst e → IsShownAt G reach bound is f e
type_shown G reach bound is f e h = λ s. IsEvidence.of_types f.rule f.inst e h

pub operation_shown : (G : Table) (reach : Reach) (bound : ℕ) (is : List PlainInst) (f : Fault) (e : Evidence)
    → f.rule ≡ rule.Y5 → operations.IsEvidence G is rule.Y5 f.inst e → IsShownAt G reach bound is f e
operation_shown G reach bound is f e one h =
    λ s. IsEvidence.of_operations f.rule f.inst e (subst (λ r. operations.IsEvidence G is r f.inst e) (sym one) h)

pub walk_shown : (G : Table) (reach : Reach) (bound : ℕ) (is : List PlainInst) (f : Fault) (e : Evidence)
    → walks.IsEvidence G is f.rule f.inst e → IsShownAt G reach bound is f e
walk_shown G reach bound is f e h = λ s. IsEvidence.of_walks f.rule f.inst e h

pub branch_shown : (G : Table) (reach : Reach) (bound : ℕ) (is : List PlainInst) (f : Fault) (e : Evidence)
    → branches.IsEvidence (fork_of reach) G is f.rule f.inst e → IsShownAt G reach bound is f e
branch_shown G reach bound is f e h = λ s. IsEvidence.of_branches f.rule f.inst e h

pub call_shown : (G : Table) (reach : Reach) (bound : ℕ) (is : List PlainInst) (f : Fault) (e : Evidence)
    → f.rule ≡ rule.G1 → calls.IsEvidence is rule.G1 f.inst e → IsShownAt G reach bound is f e
call_shown G reach bound is f e one h =
    λ s. IsEvidence.of_calls f.rule f.inst e (subst (λ r. calls.IsEvidence is r f.inst e) (sym one) h)

pub id_shown : (G : Table) (reach : Reach) (bound : ℕ) (is : List PlainInst) (f : Fault) (e : Evidence)
    → ids.IsEvidence G bound is f.rule f.inst e → IsShownAt G reach bound is f e
id_shown G reach bound is f e h = λ s. IsEvidence.of_ids f.rule f.inst e h

-- a refusal of the shapes or of the layout
pub refused_broken : (reach : Reach) (G : Table) (is : List PlainInst) (s : Stop) (f : Fault) → s ≡ stop.Fault f
    → plan.IsRefusal (profile_of reach) G is s → broken.Broken (profile_of reach) G is f.rule f.inst
refused_broken reach G is s f e h =
    let r : plan.IsRefusal (profile_of reach) G is (stop.Fault f) = rw e at h in
    elim r.0 [ inl a ↦ a.broken | inr b ↦ b.1.broken ]

pub layout_shown : (G : Table) (reach : Reach) (bound : ℕ) (is : List PlainInst) (f : Fault) (e : Evidence)
    → layout.IsEvidence (profile_of reach) G is f.rule f.inst e → IsShownAt G reach bound is f e
layout_shown G reach bound is f e h = λ s. IsEvidence.of_layout f.rule f.inst e h

-- a call of what a set does not have
pub the_miscall : (reach : Reach) (is : List PlainInst) (r : Rule) (n : ℕ) → extended_rule.Broken reach is r n
    → (r ≡ rule.Y9) × IsTrue (opens reach) × IsMiscalled is n
the_miscall reach is _ _ (extended_rule.miscalled n on m) = (refl, on, m)

pub extended_shown : (G : Table) (reach : Reach) (bound : ℕ) (is : List PlainInst) (f : Fault) (e : Evidence)
    → extended_rule.Broken reach is f.rule f.inst → extended.IsEvidence is rule.Y9 f.inst e
    → IsShownAt G reach bound is f e
extended_shown G reach bound is f e b h =
    let m = the_miscall reach is f.rule f.inst b in
    λ s. IsEvidence.of_extended f.rule f.inst e m.1 (subst (λ r. extended.IsEvidence is r f.inst e) (sym m.0) h)

-- a call of OpenCL.std that has not the types that are asked
pub the_mistyping : (reach : Reach) (is : List PlainInst) (r : Rule) (n : ℕ) → std_rule.Broken reach is r n
    → (r ≡ rule.Y10) × IsTrue (asks_types reach) × IsMistyped is n
the_mistyping reach is _ _ (std_rule.mistyped n on m) = (refl, on, m)

pub mistyping_shown : (G : Table) (reach : Reach) (bound : ℕ) (is : List PlainInst) (f : Fault) (e : Evidence)
    → std_rule.Broken reach is f.rule f.inst → mistyped.IsEvidence is rule.Y10 f.inst e
    → IsShownAt G reach bound is f e
mistyping_shown G reach bound is f e b h =
    let m = the_mistyping reach is f.rule f.inst b in
    λ s. IsEvidence.of_std_types f.rule f.inst e m.1 (subst (λ r. mistyped.IsEvidence is r f.inst e) (sym m.0) h)

-- what the standard asks besides
pub standard_shown : (G : Table) (reach : Reach) (bound : ℕ) (is : List PlainInst) (f : Fault) (e : Evidence)
    → standard.IsEvidence G reach is f.rule f.inst e → IsShownAt G reach bound is f e
standard_shown G reach bound is f e h = λ s. IsEvidence.of_standard f.rule f.inst e h
