-- Evidence of whatever rule shows that the rule is broken.
use Rattle.std.proofs.Common.{◌≡◌, ◌<◌, ◌≤◌, ◌⊎◌, inl, inr, ℕ, List, IsTrue, Some, arith}
use Rattle.std.specs.Prelude.{slice_get}
use Rattle.spv_table.specs.Table.{Table}
use Rattle.spv_module.specs.Operand.{PlainInst}
use Rattle.spv_module.specs.declared.fault.Rule.{Rule}
use Rattle.spv_module.specs.declared.fault.Rule.TheVariants as rule
use Rattle.spv_ops.specs.Typed.{IsTyped}
use Rattle.spv_type_rules.specs.Keeps.{Keeps}
use Rattle.spv_check.specs.types.Broken as types
use Rattle.spv_check.specs.Broken.{Broken}
use Rattle.spv_evidence.specs.declared.evidence.Evidence.{Evidence}
use Rattle.spv_extended.specs.declared.reach.Reach.{Reach}
use Rattle.spv_extended.specs.Reach.{opens, profile_of}
use Rattle.spv_check.specs.Fork.{fork_of}
use Rattle.spv_extended.specs.Broken as extended
use Rattle.spv_std_types.specs.Broken as std_types
use Rattle.spv_std_types.specs.Broken.{asks_types}
use Rattle.spv_form_evidence.specs.extended.Evidence as by_extended
use Rattle.spv_layout.specs.First.{stage_of}
use Rattle.spv_layout.specs.Stage as stages
use Rattle.spv_check.proofs.Firsts.{calls_stage, extended_stage, flow_stage, ids_stage, layout_stage, std_types_stage}
use Rattle.spv_standard.proofs.Stages.{standard_stage}
use Rattle.spv_check.proofs.Stages.{types_stage}
use Rattle.spv_form_evidence.specs.layout.Evidence as by_layout
use Rattle.spv_form_evidence.specs.ids.Roles as roles
use Rattle.spv_type_evidence.specs.types.Evidence as by_types
use Rattle.spv_operation_evidence.specs.Evidence as by_operations
use Rattle.spv_form_evidence.specs.capabilities.Evidence as capabilities
use Rattle.spv_form_evidence.proofs.lemmas.layout.Sufficing as layout_law
use Rattle.spv_form_evidence.proofs.lemmas.ids.Sufficing.{ids_suffice, roles_suffice}
use Rattle.spv_form_evidence.proofs.lemmas.capabilities.Suffices.{breaks}
use Rattle.spv_form_evidence.proofs.lemmas.extended.Sufficing as extended_law
use Rattle.spv_type_evidence.proofs.lemmas.types.Sufficing as types_law
use Rattle.spv_operation_evidence.proofs.lemmas.Sufficing as operations_law
use Rattle.spv_flow_evidence.proofs.lemmas.branches.Rules as branches_law
use Rattle.spv_flow_evidence.proofs.lemmas.walks.Sufficing as walks_law
use Rattle.spv_flow_evidence.proofs.lemmas.calls.Walked.{sufficient}
use Rattle.spv_explain.specs.Evidence.{IsEvidence}
use Rattle.spv_explain.specs.Mistyped as by_std_types
use Rattle.spv_explain.proofs.Parted.{standard_broken}

-- the instruction at which a rule on capabilities or entry points is shown to be broken
record IsThere (is : List PlainInst) (n : ℕ) : Type 0 where
  pub inst : PlainInst
  pub there : slice_get is n ≡ Some inst

capability_there : (G : Table) (is : List PlainInst) (r : Rule) (n : ℕ) (e : Evidence)
    → capabilities.IsEvidence G is r n e → IsThere is n
capability_there G is _ _ _ (capabilities.IsEvidence.no_kernel n o h) = record { inst = o.inst; there = o.there }
capability_there G is _ _ _ (capabilities.IsEvidence.shader n o h) = record { inst = o.inst; there = o.there }
capability_there G is _ _ _ (capabilities.IsEvidence.needs n i l t u) = record { inst = i; there = t }
capability_there G is _ _ _ (capabilities.IsEvidence.model n k i t o m) = record { inst = i; there = t }
capability_there G is _ _ _ (capabilities.IsEvidence.no_entry n o h) = record { inst = o.inst; there = o.there }
capability_there G is _ _ _ (capabilities.IsEvidence.entry n i p t u) = record { inst = i; there = t }

-- the rules on roles, on capabilities and entry points, and on types
pub roles_broken : (G : Table) (is : List PlainInst) (r : Rule) (n : ℕ) (e : Evidence) → roles.IsEvidence G is r n e
    → types.Broken G is r n
roles_broken G is r n e h = types.Broken.of_roles r n (roles_suffice G is r n e h)

pub capabilities_broken : (G : Table) (is : List PlainInst) (r : Rule) (n : ℕ) (e : Evidence)
    → capabilities.IsEvidence G is r n e → types.Broken G is r n
capabilities_broken G is r n e h =
    let t = capability_there G is r n e h in
    types.Broken.of_capabilities r n t.inst t.there (breaks G is r n e t.inst h t.there)

extended_broken : (reach : Reach) (is : List PlainInst) (r : Rule) (n : ℕ) (e : Evidence) → IsTrue (opens reach)
    → by_extended.IsEvidence is r n e → extended.Broken reach is r n
extended_broken reach is r n e on h = extended_law.suffices reach is r n e on h

std_types_broken : (reach : Reach) (is : List PlainInst) (r : Rule) (n : ℕ) (e : Evidence)
    → IsTrue (asks_types reach) → by_std_types.IsEvidence is r n e → std_types.Broken reach is r n
std_types_broken reach is _ _ _ on (by_std_types.IsEvidence.mistyped n a m) = std_types.mistyped n on (a, m)

-- what is kept, but for what Y5 demands of operations
unasked : (G : Table) (is : List PlainInst) (r : Rule) (n : ℕ) (i : PlainInst) → Keeps (IsTyped G is) is r n i
    → Keeps (λ m j. Unit {0}) is r n i
unasked G is rule.Y2 n i h = h
unasked G is rule.Y3 n i h = h
unasked G is rule.Y4 n i h = h
unasked G is rule.Y5 n i h = tt
unasked G is rule.Y6 n i h = h
unasked G is rule.Y7 n i h = h
unasked G is rule.Y8 n i h = h
unasked G is _ n i h = tt

pub types_broken : (G : Table) (is : List PlainInst) (r : Rule) (n : ℕ) (e : Evidence)
    → by_types.IsEvidence G is r n e → types.Broken G is r n
types_broken G is r n e h =
    types.Broken.of_types r n h.inst h.there
    (λ k. types_law.suffices G is r n e h h.inst h.there (unasked G is r n h.inst k))

pub operations_broken : (G : Table) (is : List PlainInst) (r : Rule) (n : ℕ) (e : Evidence)
    → by_operations.IsEvidence G is r n e → types.Broken G is r n
operations_broken G is r n e h =
    types.Broken.of_types r n h.inst h.there (operations_law.suffices G is r n e h h.inst h.there)

pub suffices : (G : Table) (reach : Reach) (bound : ℕ) (is : List PlainInst) (r : Rule) (n : ℕ) (e : Evidence)
    → IsEvidence G reach bound is r n e → Broken G reach bound is r n
suffices G reach bound is _ _ _ (IsEvidence.of_layout r n e h) =
    Broken.of_layout r n (layout_law.suffices (profile_of reach) G is r n e h)
suffices G reach bound is _ _ _ (IsEvidence.of_ids r n e h) = Broken.of_ids r n (ids_suffice G bound is r n e h)
suffices G reach bound is _ _ _ (IsEvidence.of_roles r n e h) = Broken.of_types r n (roles_broken G is r n e h)
suffices G reach bound is _ _ _ (IsEvidence.of_capabilities r n e h) =
    Broken.of_types r n (capabilities_broken G is r n e h)
suffices G reach bound is _ _ _ (IsEvidence.of_types r n e h) = Broken.of_types r n (types_broken G is r n e h)
suffices G reach bound is _ _ _ (IsEvidence.of_operations r n e h) =
    Broken.of_types r n (operations_broken G is r n e h)
suffices G reach bound is _ _ _ (IsEvidence.of_branches r n e h) =
    Broken.of_flow r n (branches_law.suffices (fork_of reach) G is r n e h)
suffices G reach bound is _ _ _ (IsEvidence.of_walks r n e h) = Broken.of_flow r n
    (walks_law.suffices (fork_of reach) G is r n e h)
suffices G reach bound is _ _ _ (IsEvidence.of_calls r n e h) = Broken.of_calls r n (sufficient is r n e h)
suffices G reach bound is _ _ _ (IsEvidence.of_extended r n e on h) =
    Broken.of_extended r n (extended_broken reach is r n e on h)
suffices G reach bound is _ _ _ (IsEvidence.of_std_types r n e on h) =
    Broken.of_std_types r n (std_types_broken reach is r n e on h)
suffices G reach bound is _ _ _ (IsEvidence.of_standard r n e h) =
    Broken.of_standard r n (standard_broken G reach is r n e h)

-- evidence of a stage before D is that of the shapes and the layout
apart : (r : Rule) (a b : ℕ) → stage_of r < stages.of_ids → (stage_of r ≡ a) ⊎ (stage_of r ≡ b) → 3 ≤ a → 3 ≤ b → ⊥
apart r a b s (inl e) l m = omega (arith, s, e, l)
apart r a b s (inr e) l m = omega (arith, s, e, m)

pub of_layout_alone : (G : Table) (reach : Reach) (bound : ℕ) (is : List PlainInst) (r : Rule) (n : ℕ) (e : Evidence)
    → IsEvidence G reach bound is r n e → stage_of r < stages.of_ids
    → by_layout.IsEvidence (profile_of reach) G is r n e
of_layout_alone G reach bound is _ _ _ (IsEvidence.of_layout r n e h) s = h
of_layout_alone G reach bound is _ _ _ (IsEvidence.of_ids r n e h) s =
    absurd (apart r 3 3 s (inl (ids_stage G bound is r n (ids_suffice G bound is r n e h))) (omega arith) (omega arith))
of_layout_alone G reach bound is _ _ _ (IsEvidence.of_roles r n e h) s =
    absurd (apart r 4 5 s (types_stage G is r n (roles_broken G is r n e h)) (omega arith) (omega arith))
of_layout_alone G reach bound is _ _ _ (IsEvidence.of_capabilities r n e h) s =
    absurd (apart r 4 5 s (types_stage G is r n (capabilities_broken G is r n e h)) (omega arith) (omega arith))
of_layout_alone G reach bound is _ _ _ (IsEvidence.of_types r n e h) s =
    absurd (apart r 4 5 s (types_stage G is r n (types_broken G is r n e h)) (omega arith) (omega arith))
of_layout_alone G reach bound is _ _ _ (IsEvidence.of_operations r n e h) s =
    absurd (apart r 4 5 s (types_stage G is r n (operations_broken G is r n e h)) (omega arith) (omega arith))
of_layout_alone G reach bound is _ _ _ (IsEvidence.of_branches r n e h) s =
    absurd (apart r 6 7 s (flow_stage reach G is r n (branches_law.suffices (fork_of reach) G is r n e h)) (omega arith)
    (omega arith))
of_layout_alone G reach bound is _ _ _ (IsEvidence.of_walks r n e h) s =
    absurd (apart r 6 7 s (flow_stage reach G is r n (walks_law.suffices (fork_of reach) G is r n e h)) (omega arith)
    (omega arith))
of_layout_alone G reach bound is _ _ _ (IsEvidence.of_calls r n e h) s =
    absurd (apart r 8 8 s (inl (calls_stage is r n (sufficient is r n e h))) (omega arith) (omega arith))
of_layout_alone G reach bound is _ _ _ (IsEvidence.of_extended r n e on h) s =
    absurd (apart r 9 9 s (inl (extended_stage reach is r n (extended_broken reach is r n e on h))) (omega arith)
    (omega arith))
of_layout_alone G reach bound is _ _ _ (IsEvidence.of_std_types r n e on h) s =
    absurd (apart r 10 10 s (inl (std_types_stage reach is r n (std_types_broken reach is r n e on h))) (omega arith)
    (omega arith))
of_layout_alone G reach bound is _ _ _ (IsEvidence.of_standard r n e h) s =
    absurd (apart r 11 11 s (inl (standard_stage G reach is r n (standard_broken G reach is r n e h))) (omega arith)
    (omega arith))

-- evidence of the stage of Y9 is that of calls of extended instructions
below : (r : Rule) (a b : ℕ) → stage_of r ≡ stages.of_extended → (stage_of r ≡ a) ⊎ (stage_of r ≡ b) → a ≤ 8 → b ≤ 8 → ⊥
below r a b s (inl e) l m = omega (arith, s, e, l)
below r a b s (inr e) l m = omega (arith, s, e, m)

pub record IsOfExtended (reach : Reach) (is : List PlainInst) (r : Rule) (n : ℕ) (e : Evidence) : Type 0 where
  pub on : IsTrue (opens reach)
  pub shows : by_extended.IsEvidence is r n e

pub of_extended_alone : (G : Table) (reach : Reach) (bound : ℕ) (is : List PlainInst) (r : Rule) (n : ℕ) (e : Evidence)
    → IsEvidence G reach bound is r n e → stage_of r ≡ stages.of_extended → IsOfExtended reach is r n e
of_extended_alone G reach bound is _ _ _ (IsEvidence.of_layout r n e h) s =
    absurd (below r 1 2 s (layout_stage reach G is r n (layout_law.suffices (profile_of reach) G is r n e h))
    (omega arith) (omega arith))
of_extended_alone G reach bound is _ _ _ (IsEvidence.of_ids r n e h) s =
    absurd (below r 3 3 s (inl (ids_stage G bound is r n (ids_suffice G bound is r n e h))) (omega arith) (omega arith))
of_extended_alone G reach bound is _ _ _ (IsEvidence.of_roles r n e h) s =
    absurd (below r 4 5 s (types_stage G is r n (roles_broken G is r n e h)) (omega arith) (omega arith))
of_extended_alone G reach bound is _ _ _ (IsEvidence.of_capabilities r n e h) s =
    absurd (below r 4 5 s (types_stage G is r n (capabilities_broken G is r n e h)) (omega arith) (omega arith))
of_extended_alone G reach bound is _ _ _ (IsEvidence.of_types r n e h) s =
    absurd (below r 4 5 s (types_stage G is r n (types_broken G is r n e h)) (omega arith) (omega arith))
of_extended_alone G reach bound is _ _ _ (IsEvidence.of_operations r n e h) s =
    absurd (below r 4 5 s (types_stage G is r n (operations_broken G is r n e h)) (omega arith) (omega arith))
of_extended_alone G reach bound is _ _ _ (IsEvidence.of_branches r n e h) s =
    absurd (below r 6 7 s (flow_stage reach G is r n (branches_law.suffices (fork_of reach) G is r n e h)) (omega arith)
    (omega arith))
of_extended_alone G reach bound is _ _ _ (IsEvidence.of_walks r n e h) s =
    absurd (below r 6 7 s (flow_stage reach G is r n (walks_law.suffices (fork_of reach) G is r n e h)) (omega arith)
    (omega arith))
of_extended_alone G reach bound is _ _ _ (IsEvidence.of_calls r n e h) s =
    absurd (below r 8 8 s (inl (calls_stage is r n (sufficient is r n e h))) (omega arith) (omega arith))
of_extended_alone G reach bound is _ _ _ (IsEvidence.of_extended r n e on h) s = record { on = on; shows = h }
of_extended_alone G reach bound is _ _ _ (IsEvidence.of_std_types r n e on h) s =
    let t = std_types_stage reach is r n (std_types_broken reach is r n e on h) in
    absurd (omega (arith, s, t))
of_extended_alone G reach bound is _ _ _ (IsEvidence.of_standard r n e h) s =
    let t = standard_stage G reach is r n (standard_broken G reach is r n e h) in
    absurd (omega (arith, s, t))

-- evidence of the stage of Y10 is that of the types of calls of OpenCL.std
past : (r : Rule) (a b : ℕ) → stage_of r ≡ stages.of_std_types → (stage_of r ≡ a) ⊎ (stage_of r ≡ b) → a ≤ 9 → b ≤ 9 → ⊥
past r a b s (inl e) l m = omega (arith, s, e, l)
past r a b s (inr e) l m = omega (arith, s, e, m)

pub record IsOfStdTypes (reach : Reach) (is : List PlainInst) (r : Rule) (n : ℕ) (e : Evidence) : Type 0 where
  pub on : IsTrue (asks_types reach)
  pub shows : by_std_types.IsEvidence is r n e

pub of_std_types_alone : (G : Table) (reach : Reach) (bound : ℕ) (is : List PlainInst) (r : Rule) (n : ℕ) (e : Evidence)
    → IsEvidence G reach bound is r n e → stage_of r ≡ stages.of_std_types → IsOfStdTypes reach is r n e
of_std_types_alone G reach bound is _ _ _ (IsEvidence.of_layout r n e h) s =
    absurd (past r 1 2 s (layout_stage reach G is r n (layout_law.suffices (profile_of reach) G is r n e h))
    (omega arith) (omega arith))
of_std_types_alone G reach bound is _ _ _ (IsEvidence.of_ids r n e h) s =
    absurd (past r 3 3 s (inl (ids_stage G bound is r n (ids_suffice G bound is r n e h))) (omega arith) (omega arith))
of_std_types_alone G reach bound is _ _ _ (IsEvidence.of_roles r n e h) s =
    absurd (past r 4 5 s (types_stage G is r n (roles_broken G is r n e h)) (omega arith) (omega arith))
of_std_types_alone G reach bound is _ _ _ (IsEvidence.of_capabilities r n e h) s =
    absurd (past r 4 5 s (types_stage G is r n (capabilities_broken G is r n e h)) (omega arith) (omega arith))
of_std_types_alone G reach bound is _ _ _ (IsEvidence.of_types r n e h) s =
    absurd (past r 4 5 s (types_stage G is r n (types_broken G is r n e h)) (omega arith) (omega arith))
of_std_types_alone G reach bound is _ _ _ (IsEvidence.of_operations r n e h) s =
    absurd (past r 4 5 s (types_stage G is r n (operations_broken G is r n e h)) (omega arith) (omega arith))
of_std_types_alone G reach bound is _ _ _ (IsEvidence.of_branches r n e h) s =
    absurd (past r 6 7 s (flow_stage reach G is r n (branches_law.suffices (fork_of reach) G is r n e h)) (omega arith)
    (omega arith))
of_std_types_alone G reach bound is _ _ _ (IsEvidence.of_walks r n e h) s =
    absurd (past r 6 7 s (flow_stage reach G is r n (walks_law.suffices (fork_of reach) G is r n e h)) (omega arith)
    (omega arith))
of_std_types_alone G reach bound is _ _ _ (IsEvidence.of_calls r n e h) s =
    absurd (past r 8 8 s (inl (calls_stage is r n (sufficient is r n e h))) (omega arith) (omega arith))
of_std_types_alone G reach bound is _ _ _ (IsEvidence.of_extended r n e on h) s =
    absurd (past r 9 9 s (inl (extended_stage reach is r n (extended_broken reach is r n e on h))) (omega arith)
    (omega arith))
of_std_types_alone G reach bound is _ _ _ (IsEvidence.of_std_types r n e on h) s = record { on = on; shows = h }
of_std_types_alone G reach bound is _ _ _ (IsEvidence.of_standard r n e h) s =
    let t = standard_stage G reach is r n (standard_broken G reach is r n e h) in
    absurd (omega (arith, s, t))
