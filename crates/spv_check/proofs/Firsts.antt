-- The first broken rule of a module, put together from what the layers say of their stages.
use Rattle.std.proofs.Common.{◌≡◌, ◌<◌, ◌≤◌, ◌⊎◌, ℕ, List, refl, inl, inr, arith}
use Rattle.spv_table.specs.Table.{Table}
use Rattle.spv_module.specs.Operand.{PlainInst}
use Rattle.spv_module.specs.declared.fault.Rule.{Rule}
use Rattle.spv_extended.specs.Broken as extended
use Rattle.spv_extended.specs.declared.reach.Reach.{Reach}
use Rattle.spv_extended.specs.Reach.{profile_of}
use Rattle.spv_std_types.specs.Broken as std_types
use Rattle.spv_standard.specs.Broken as standard
use Rattle.spv_standard.proofs.Stages.{standard_stage}
use Rattle.spv_layout.specs.DeadPlace.{IsDeadPlace}
use Rattle.spv_layout.specs.Layout.{IsLayout, seen_classes}
use Rattle.spv_layout.specs.First as stage
use Rattle.spv_layout.specs.First.{stage_of, rank_of, IsUnbroken}
use Rattle.spv_layout.specs.Broken as layout
use Rattle.spv_layout.specs.Plan.{IsLaidOut}
use Rattle.spv_layout.specs.Plan as plan
use Rattle.spv_layout.specs.Stage as stages
use Rattle.spv_ids.specs.Outcome as outcome
use Rattle.spv_module.specs.declared.fault.Stop.{Stop}
use Rattle.spv_module.specs.declared.fault.Stop.TheVariants.{Fault, Memory}
use Rattle.spv_layout.proofs.Brokens.{dead_stage}
use Rattle.spv_layout.proofs.Firsts.{rank_apart}
use Rattle.spv_ids.specs.Broken as ids
use Rattle.spv_check.specs.types.Broken as types
use Rattle.spv_check.specs.types.Outcome as types_outcome
use Rattle.spv_flow.specs.branches.Broken as flow
use Rattle.spv_flow.proofs.lemmas.walks.Staged.{IsStaged, staged}
use Rattle.spv_flow.specs.calls.Broken as calls
use Rattle.spv_check.specs.extended.Outcome as extended_outcome
use Rattle.spv_check.specs.std_types.Outcome as std_types_outcome
use Rattle.spv_check.specs.flow.Outcome as flow_outcome
use Rattle.spv_check.specs.flow.Outcome.{IsFirstOfFlow}
use Rattle.spv_check.specs.Fork.{fork_of}
use Rattle.spv_check.proofs.Stages.{types_stage}
use Rattle.spv_check.specs.Broken.{Broken, Precedes, IsFirstOfAll, IsSound, IsTold}

-- the stages of the rules
pub layout_stage : (reach : Reach) (G : Table) (is : List PlainInst) (r : Rule) (n : ℕ)
    → layout.Broken (profile_of reach) G is r n
    → (stage_of r ≡ stages.of_profile) ⊎ (stage_of r ≡ stages.of_layout)
layout_stage reach G is _ _ (layout.misfit i n h f) = inl refl
layout_stage reach G is _ _ (layout.dead r n d) = inr (dead_stage (profile_of reach) is r n d)

pub ids_stage : (G : Table) (bound : ℕ) (is : List PlainInst) (r : Rule) (n : ℕ) → ids.Broken G bound is r n
    → stage_of r ≡ stages.of_ids
ids_stage G bound is _ _ (ids.result_out_of_range n x d o) = refl
ids_stage G bound is _ _ _ = refl

staged_stage : (G : Table) (is : List PlainInst) (r : Rule) (n : ℕ) → IsStaged G is r n
    → (stage_of r ≡ stages.of_branches) ⊎ (stage_of r ≡ stages.of_values)
staged_stage G is _ _ (IsStaged.branches r n e) = inl e
staged_stage G is _ _ (IsStaged.missing n m) = inr refl
staged_stage G is _ _ (IsStaged.pair_missing n m) = inr refl

pub flow_stage : (reach : Reach) (G : Table) (is : List PlainInst) (r : Rule) (n : ℕ)
    → flow.Broken (fork_of reach) G is r n
    → (stage_of r ≡ stages.of_branches) ⊎ (stage_of r ≡ stages.of_values)
flow_stage reach G is r n b = staged_stage G is r n (staged (fork_of reach) G is r n b)

pub calls_stage : (is : List PlainInst) (r : Rule) (n : ℕ) → calls.Broken is r n → stage_of r ≡ stages.of_calls
calls_stage is _ _ (calls.on_cycle n e f g call entry to back) = refl

pub extended_stage : (reach : Reach) (is : List PlainInst) (r : Rule) (n : ℕ) → extended.Broken reach is r n
    → stage_of r ≡ stages.of_extended
extended_stage reach is _ _ (extended.miscalled n e m) = refl

pub std_types_stage : (reach : Reach) (is : List PlainInst) (r : Rule) (n : ℕ) → std_types.Broken reach is r n
    → stage_of r ≡ stages.of_std_types
std_types_stage reach is _ _ (std_types.mistyped n e m) = refl

-- within a stage
within : (r q : Rule) (n m : ℕ) → stage_of r ≡ stage_of q → (n < m) ⊎ ((n ≡ m) × (rank_of r ≤ rank_of q))
    → Precedes r n q m
within r q n m e (inl l) = Precedes.instruction e l
within r q n m e (inr x) = Precedes.rule e x.0 x.1

-- a rule of the profile
pub profile_first : (G : Table) (reach : Reach) (bound : ℕ) (is : List PlainInst) (r : Rule) (n : ℕ)
    → stage.IsFirst (layout.Broken (profile_of reach) G is) stages.of_profile r n → IsFirstOfAll G reach bound is r n
profile_first G reach bound is r n f = record { broken = Broken.of_layout r n f.broken; least = least } where
  least : (q : Rule) (m : ℕ) → Broken G reach bound is q m → Precedes r n q m
  least _ _ (Broken.of_layout q m b) =
      let s = f.of_stage in
      elim (layout_stage reach G is q m b) [
        | inl e ↦ within r q n m (omega arith) (f.least q m e b)
        | inr e ↦
            Precedes.stage (omega arith)
      ]
  least _ _ (Broken.of_ids q m b) = let s = f.of_stage in let e = ids_stage G bound is q m b in
      Precedes.stage (omega arith)
  least _ _ (Broken.of_types q m b) =
      let s = f.of_stage in
      elim (types_stage G is q m b) [ inl e ↦ Precedes.stage (omega arith) | inr e ↦ Precedes.stage (omega arith) ]
  least _ _ (Broken.of_flow q m b) =
      let s = f.of_stage in
      elim (flow_stage reach G is q m b) [ inl e ↦ Precedes.stage (omega arith) | inr e ↦ Precedes.stage (omega arith) ]
  least _ _ (Broken.of_calls q m b) = let s = f.of_stage in let e = calls_stage is q m b in Precedes.stage (omega arith)
  least _ _ (Broken.of_extended q m b) = let s = f.of_stage in let e = extended_stage reach is q m b in
      Precedes.stage (omega arith)
  least _ _ (Broken.of_std_types q m b) = let s = f.of_stage in let e = std_types_stage reach is q m b in
      Precedes.stage (omega arith)
  least _ _ (Broken.of_standard q m b) = let s = f.of_stage in let e = standard_stage G reach is q m b in
      Precedes.stage (omega arith)

-- a rule of the layout, where each instruction fits the profile
pub layout_first : (G : Table) (reach : Reach) (bound : ℕ) (is : List PlainInst) (r : Rule) (n : ℕ)
    → IsUnbroken (layout.Broken (profile_of reach) G is) stages.of_profile
    → stage.IsFirst (layout.Broken (profile_of reach) G is) stages.of_layout r n
    → IsFirstOfAll G reach bound is r n
layout_first G reach bound is r n u f = record { broken = Broken.of_layout r n f.broken; least = least } where
  least : (q : Rule) (m : ℕ) → Broken G reach bound is q m → Precedes r n q m
  least _ _ (Broken.of_layout q m b) =
      let s = f.of_stage in
      elim (layout_stage reach G is q m b) [
        | inl e ↦ absurd (u q m e b)
        | inr e ↦
            within r q n m (omega arith) (f.least q m e b)
      ]
  least _ _ (Broken.of_ids q m b) = let s = f.of_stage in let e = ids_stage G bound is q m b in
      Precedes.stage (omega arith)
  least _ _ (Broken.of_types q m b) =
      let s = f.of_stage in
      elim (types_stage G is q m b) [ inl e ↦ Precedes.stage (omega arith) | inr e ↦ Precedes.stage (omega arith) ]
  least _ _ (Broken.of_flow q m b) =
      let s = f.of_stage in
      elim (flow_stage reach G is q m b) [ inl e ↦ Precedes.stage (omega arith) | inr e ↦ Precedes.stage (omega arith) ]
  least _ _ (Broken.of_calls q m b) = let s = f.of_stage in let e = calls_stage is q m b in Precedes.stage (omega arith)
  least _ _ (Broken.of_extended q m b) = let s = f.of_stage in let e = extended_stage reach is q m b in
      Precedes.stage (omega arith)
  least _ _ (Broken.of_std_types q m b) = let s = f.of_stage in let e = std_types_stage reach is q m b in
      Precedes.stage (omega arith)
  least _ _ (Broken.of_standard q m b) = let s = f.of_stage in let e = standard_stage G reach is q m b in
      Precedes.stage (omega arith)

-- a rule on ids, where no rule of the profile or the layout is broken
pub ids_first : (G : Table) (reach : Reach) (bound : ℕ) (is : List PlainInst) (r : Rule) (n : ℕ)
    → ((q : Rule) (m : ℕ) → ¬ (layout.Broken (profile_of reach) G is q m))
    → stage.IsFirst (ids.Broken G bound is) stages.of_ids r n
    → IsFirstOfAll G reach bound is r n
ids_first G reach bound is r n u f = record { broken = Broken.of_ids r n f.broken; least = least } where
  least : (q : Rule) (m : ℕ) → Broken G reach bound is q m → Precedes r n q m
  least _ _ (Broken.of_layout q m b) = absurd (u q m b)
  least _ _ (Broken.of_ids q m b) = let s = f.of_stage in let e = ids_stage G bound is q m b in
      within r q n m (omega arith) (f.least q m e b)
  least _ _ (Broken.of_types q m b) =
      let s = f.of_stage in
      elim (types_stage G is q m b) [ inl e ↦ Precedes.stage (omega arith) | inr e ↦ Precedes.stage (omega arith) ]
  least _ _ (Broken.of_flow q m b) =
      let s = f.of_stage in
      elim (flow_stage reach G is q m b) [ inl e ↦ Precedes.stage (omega arith) | inr e ↦ Precedes.stage (omega arith) ]
  least _ _ (Broken.of_calls q m b) = let s = f.of_stage in let e = calls_stage is q m b in Precedes.stage (omega arith)
  least _ _ (Broken.of_extended q m b) = let s = f.of_stage in let e = extended_stage reach is q m b in
      Precedes.stage (omega arith)
  least _ _ (Broken.of_std_types q m b) = let s = f.of_stage in let e = std_types_stage reach is q m b in
      Precedes.stage (omega arith)
  least _ _ (Broken.of_standard q m b) = let s = f.of_stage in let e = standard_stage G reach is q m b in
      Precedes.stage (omega arith)

-- a rule on roles, where no rule of the profile, the layout or on ids is broken
pub roles_first : (G : Table) (reach : Reach) (bound : ℕ) (is : List PlainInst) (r : Rule) (n : ℕ)
    → ((q : Rule) (m : ℕ) → ¬ (layout.Broken (profile_of reach) G is q m))
    → IsUnbroken (ids.Broken G bound is) stages.of_ids
    → stage.IsFirst (types.Broken G is) stages.of_roles r n → IsFirstOfAll G reach bound is r n
roles_first G reach bound is r n u v f = record { broken = Broken.of_types r n f.broken; least = least } where
  least : (q : Rule) (m : ℕ) → Broken G reach bound is q m → Precedes r n q m
  least _ _ (Broken.of_layout q m b) = absurd (u q m b)
  least _ _ (Broken.of_ids q m b) = absurd (v q m (ids_stage G bound is q m b) b)
  least _ _ (Broken.of_types q m b) =
      let s = f.of_stage in
      elim (types_stage G is q m b) [
        | inl e ↦ within r q n m (omega arith) (f.least q m e b)
        | inr e ↦
            Precedes.stage (omega arith)
      ]
  least _ _ (Broken.of_flow q m b) =
      let s = f.of_stage in
      elim (flow_stage reach G is q m b) [ inl e ↦ Precedes.stage (omega arith) | inr e ↦ Precedes.stage (omega arith) ]
  least _ _ (Broken.of_calls q m b) = let s = f.of_stage in let e = calls_stage is q m b in Precedes.stage (omega arith)
  least _ _ (Broken.of_extended q m b) = let s = f.of_stage in let e = extended_stage reach is q m b in
      Precedes.stage (omega arith)
  least _ _ (Broken.of_std_types q m b) = let s = f.of_stage in let e = std_types_stage reach is q m b in
      Precedes.stage (omega arith)
  least _ _ (Broken.of_standard q m b) = let s = f.of_stage in let e = standard_stage G reach is q m b in
      Precedes.stage (omega arith)

-- a rule on capabilities, entry points or types, where no rule on roles is broken either
pub types_first : (G : Table) (reach : Reach) (bound : ℕ) (is : List PlainInst) (r : Rule) (n : ℕ)
    → ((q : Rule) (m : ℕ) → ¬ (layout.Broken (profile_of reach) G is q m))
    → IsUnbroken (ids.Broken G bound is) stages.of_ids
    → IsUnbroken (types.Broken G is) stages.of_roles → stage.IsFirst (types.Broken G is) stages.of_types r n
    → IsFirstOfAll G reach bound is r n
types_first G reach bound is r n u v w f = record { broken = Broken.of_types r n f.broken; least = least } where
  least : (q : Rule) (m : ℕ) → Broken G reach bound is q m → Precedes r n q m
  least _ _ (Broken.of_layout q m b) = absurd (u q m b)
  least _ _ (Broken.of_ids q m b) = absurd (v q m (ids_stage G bound is q m b) b)
  least _ _ (Broken.of_types q m b) =
      let s = f.of_stage in
      elim (types_stage G is q m b) [
        | inl e ↦ absurd (w q m e b)
        | inr e ↦
            within r q n m (omega arith) (f.least q m e b)
      ]
  least _ _ (Broken.of_flow q m b) =
      let s = f.of_stage in
      elim (flow_stage reach G is q m b) [ inl e ↦ Precedes.stage (omega arith) | inr e ↦ Precedes.stage (omega arith) ]
  least _ _ (Broken.of_calls q m b) = let s = f.of_stage in let e = calls_stage is q m b in Precedes.stage (omega arith)
  least _ _ (Broken.of_extended q m b) = let s = f.of_stage in let e = extended_stage reach is q m b in
      Precedes.stage (omega arith)
  least _ _ (Broken.of_std_types q m b) = let s = f.of_stage in let e = std_types_stage reach is q m b in
      Precedes.stage (omega arith)
  least _ _ (Broken.of_standard q m b) = let s = f.of_stage in let e = standard_stage G reach is q m b in
      Precedes.stage (omega arith)

-- no rule of the profile, the layout, on ids or on types is broken
pub record IsBefore (G : Table) (reach : Reach) (bound : ℕ) (is : List PlainInst) : Type 0 where
  pub of_layout : (q : Rule) (m : ℕ) → ¬ (layout.Broken (profile_of reach) G is q m)
  pub of_ids : IsUnbroken (ids.Broken G bound is) stages.of_ids
  pub of_roles : IsUnbroken (types.Broken G is) stages.of_roles
  pub of_types : IsUnbroken (types.Broken G is) stages.of_types

never_before : (reach : Reach) (G : Table) (bound : ℕ) (is : List PlainInst) (r q : Rule) (n m : ℕ)
    → IsBefore G reach bound is
    → types.Broken G is q m → Precedes r n q m
never_before reach G bound is r q n m u b =
    elim (types_stage G is q m b) [ inl e ↦ absurd (u.of_roles q m e b) | inr e ↦ absurd (u.of_types q m e b) ]

-- a rule on branches, where none of those is broken
pub branches_first : (G : Table) (reach : Reach) (bound : ℕ) (is : List PlainInst) (r : Rule) (n : ℕ)
    → IsBefore G reach bound is → stage.IsFirst (flow.Broken (fork_of reach) G is) stages.of_branches r n
    → IsFirstOfAll G reach bound is r n
branches_first G reach bound is r n u f = record { broken = Broken.of_flow r n f.broken; least = least } where
  least : (q : Rule) (m : ℕ) → Broken G reach bound is q m → Precedes r n q m
  least _ _ (Broken.of_layout q m b) = absurd (u.of_layout q m b)
  least _ _ (Broken.of_ids q m b) = absurd (u.of_ids q m (ids_stage G bound is q m b) b)
  least _ _ (Broken.of_types q m b) = never_before reach G bound is r q n m u b
  least _ _ (Broken.of_flow q m b) =
      let s = f.of_stage in
      elim (flow_stage reach G is q m b) [
        | inl e ↦ within r q n m (omega arith) (f.least q m e b)
        | inr e ↦
            Precedes.stage (omega arith)
      ]
  least _ _ (Broken.of_calls q m b) = let s = f.of_stage in let e = calls_stage is q m b in Precedes.stage (omega arith)
  least _ _ (Broken.of_extended q m b) = let s = f.of_stage in let e = extended_stage reach is q m b in
      Precedes.stage (omega arith)
  least _ _ (Broken.of_std_types q m b) = let s = f.of_stage in let e = std_types_stage reach is q m b in
      Precedes.stage (omega arith)
  least _ _ (Broken.of_standard q m b) = let s = f.of_stage in let e = standard_stage G reach is q m b in
      Precedes.stage (omega arith)

-- a rule on values, where no rule on branches is broken either
pub values_first : (G : Table) (reach : Reach) (bound : ℕ) (is : List PlainInst) (r : Rule) (n : ℕ)
    → IsBefore G reach bound is → IsUnbroken (flow.Broken (fork_of reach) G is) stages.of_branches
    → stage.IsFirst (flow.Broken (fork_of reach) G is) stages.of_values r n
    → IsFirstOfAll G reach bound is r n
values_first G reach bound is r n u v f = record { broken = Broken.of_flow r n f.broken; least = least } where
  least : (q : Rule) (m : ℕ) → Broken G reach bound is q m → Precedes r n q m
  least _ _ (Broken.of_layout q m b) = absurd (u.of_layout q m b)
  least _ _ (Broken.of_ids q m b) = absurd (u.of_ids q m (ids_stage G bound is q m b) b)
  least _ _ (Broken.of_types q m b) = never_before reach G bound is r q n m u b
  least _ _ (Broken.of_flow q m b) =
      let s = f.of_stage in
      elim (flow_stage reach G is q m b) [
        | inl e ↦ absurd (v q m e b)
        | inr e ↦
            within r q n m (omega arith) (f.least q m e b)
      ]
  least _ _ (Broken.of_calls q m b) = let s = f.of_stage in let e = calls_stage is q m b in Precedes.stage (omega arith)
  least _ _ (Broken.of_extended q m b) = let s = f.of_stage in let e = extended_stage reach is q m b in
      Precedes.stage (omega arith)
  least _ _ (Broken.of_std_types q m b) = let s = f.of_stage in let e = std_types_stage reach is q m b in
      Precedes.stage (omega arith)
  least _ _ (Broken.of_standard q m b) = let s = f.of_stage in let e = standard_stage G reach is q m b in
      Precedes.stage (omega arith)

-- the rule on calls, where no rule on values is broken either
pub calls_first : (G : Table) (reach : Reach) (bound : ℕ) (is : List PlainInst) (r : Rule) (n : ℕ)
    → IsBefore G reach bound is
    → IsUnbroken (flow.Broken (fork_of reach) G is) stages.of_branches
    → IsUnbroken (flow.Broken (fork_of reach) G is) stages.of_values
    → stage.IsFirst (calls.Broken is) stages.of_calls r n → IsFirstOfAll G reach bound is r n
calls_first G reach bound is r n u v w f = record { broken = Broken.of_calls r n f.broken; least = least } where
  least : (q : Rule) (m : ℕ) → Broken G reach bound is q m → Precedes r n q m
  least _ _ (Broken.of_layout q m b) = absurd (u.of_layout q m b)
  least _ _ (Broken.of_ids q m b) = absurd (u.of_ids q m (ids_stage G bound is q m b) b)
  least _ _ (Broken.of_types q m b) = never_before reach G bound is r q n m u b
  least _ _ (Broken.of_flow q m b) =
      elim (flow_stage reach G is q m b) [ inl e ↦ absurd (v q m e b) | inr e ↦ absurd (w q m e b) ]
  least _ _ (Broken.of_calls q m b) = let s = f.of_stage in let e = calls_stage is q m b in
      within r q n m (omega arith) (f.least q m e b)
  least _ _ (Broken.of_extended q m b) = let s = f.of_stage in let e = extended_stage reach is q m b in
      Precedes.stage (omega arith)
  least _ _ (Broken.of_std_types q m b) = let s = f.of_stage in let e = std_types_stage reach is q m b in
      Precedes.stage (omega arith)
  least _ _ (Broken.of_standard q m b) = let s = f.of_stage in let e = standard_stage G reach is q m b in
      Precedes.stage (omega arith)

-- a module that is laid out breaks no rule of the profile or the layout
pub planned : (reach : Reach) (G : Table) (is : List PlainInst)
    → ((is : List PlainInst) (a : Rule) (k : ℕ) → IsLayout (seen_classes (profile_of reach) is)
    → ¬ (IsDeadPlace (profile_of reach) is a k))
    → IsLaidOut (profile_of reach) G is
    → (r : Rule) (n : ℕ) → ¬ (layout.Broken (profile_of reach) G is r n)
planned reach G is law laid _ _ (layout.misfit i n h f) = f (laid.fits n i h)
planned reach G is law laid _ _ (layout.dead r n d) = law is r n laid.layout d

-- no rule of the stages up to that of calls is broken
pub record IsUpToCalls (G : Table) (reach : Reach) (bound : ℕ) (is : List PlainInst) : Type 0 where
  pub before : IsBefore G reach bound is
  pub branches : IsUnbroken (flow.Broken (fork_of reach) G is) stages.of_branches
  pub values : IsUnbroken (flow.Broken (fork_of reach) G is) stages.of_values
  pub calls : IsUnbroken (calls.Broken is) stages.of_calls

-- and no rule is, where Y9, Y10 and the rules O are not
pub sound : (G : Table) (reach : Reach) (bound : ℕ) (is : List PlainInst) → IsUpToCalls G reach bound is
    → ((r : Rule) (n : ℕ) → ¬ (extended.Broken reach is r n))
    → ((r : Rule) (n : ℕ) → ¬ (std_types.Broken reach is r n))
    → ((r : Rule) (n : ℕ) → ¬ (standard.Broken G reach is r n)) → IsSound G reach bound is
sound G reach bound is u x y z _ _ (Broken.of_layout r n b) = u.before.of_layout r n b
sound G reach bound is u x y z _ _ (Broken.of_ids r n b) = u.before.of_ids r n (ids_stage G bound is r n b) b
sound G reach bound is u x y z _ _ (Broken.of_types r n b) =
    elim (types_stage G is r n b) [ inl e ↦ u.before.of_roles r n e b | inr e ↦ u.before.of_types r n e b ]
sound G reach bound is u x y z _ _ (Broken.of_flow r n b) =
    elim (flow_stage reach G is r n b) [ inl e ↦ u.branches r n e b | inr e ↦ u.values r n e b ]
sound G reach bound is u x y z _ _ (Broken.of_calls r n b) = u.calls r n (calls_stage is r n b) b
sound G reach bound is u x y z _ _ (Broken.of_extended r n b) = x r n b
sound G reach bound is u x y z _ _ (Broken.of_std_types r n b) = y r n b
sound G reach bound is u x y z _ _ (Broken.of_standard r n b) = z r n b

-- Y9, where no rule of those stages is broken
pub extended_first : (G : Table) (reach : Reach) (bound : ℕ) (is : List PlainInst) (r : Rule) (n : ℕ)
    → IsUpToCalls G reach bound is → stage.IsFirst (extended.Broken reach is) stages.of_extended r n
    → IsFirstOfAll G reach bound is r n
extended_first G reach bound is r n u f = record { broken = Broken.of_extended r n f.broken; least = least } where
  least : (q : Rule) (m : ℕ) → Broken G reach bound is q m → Precedes r n q m
  least _ _ (Broken.of_layout q m b) = absurd (u.before.of_layout q m b)
  least _ _ (Broken.of_ids q m b) = absurd (u.before.of_ids q m (ids_stage G bound is q m b) b)
  least _ _ (Broken.of_types q m b) = never_before reach G bound is r q n m u.before b
  least _ _ (Broken.of_flow q m b) =
      elim (flow_stage reach G is q m b) [ inl e ↦ absurd (u.branches q m e b) | inr e ↦ absurd (u.values q m e b) ]
  least _ _ (Broken.of_calls q m b) = absurd (u.calls q m (calls_stage is q m b) b)
  least _ _ (Broken.of_extended q m b) = let s = f.of_stage in let e = extended_stage reach is q m b in
      within r q n m (omega arith) (f.least q m e b)
  least _ _ (Broken.of_std_types q m b) = let s = f.of_stage in let e = std_types_stage reach is q m b in
      Precedes.stage (omega arith)
  least _ _ (Broken.of_standard q m b) = let s = f.of_stage in let e = standard_stage G reach is q m b in
      Precedes.stage (omega arith)

-- Y10, where no rule of an earlier stage is broken
pub std_types_first : (G : Table) (reach : Reach) (bound : ℕ) (is : List PlainInst) (r : Rule) (n : ℕ)
    → IsUpToCalls G reach bound is → ((q : Rule) (m : ℕ) → ¬ (extended.Broken reach is q m))
    → stage.IsFirst (std_types.Broken reach is) stages.of_std_types r n → IsFirstOfAll G reach bound is r n
std_types_first G reach bound is r n u x f = record { broken = Broken.of_std_types r n f.broken; least = least } where
  least : (q : Rule) (m : ℕ) → Broken G reach bound is q m → Precedes r n q m
  least _ _ (Broken.of_layout q m b) = absurd (u.before.of_layout q m b)
  least _ _ (Broken.of_ids q m b) = absurd (u.before.of_ids q m (ids_stage G bound is q m b) b)
  least _ _ (Broken.of_types q m b) = never_before reach G bound is r q n m u.before b
  least _ _ (Broken.of_flow q m b) =
      elim (flow_stage reach G is q m b) [ inl e ↦ absurd (u.branches q m e b) | inr e ↦ absurd (u.values q m e b) ]
  least _ _ (Broken.of_calls q m b) = absurd (u.calls q m (calls_stage is q m b) b)
  least _ _ (Broken.of_extended q m b) = absurd (x q m b)
  least _ _ (Broken.of_std_types q m b) = let s = f.of_stage in let e = std_types_stage reach is q m b in
      within r q n m (omega arith) (f.least q m e b)
  least _ _ (Broken.of_standard q m b) = let s = f.of_stage in let e = standard_stage G reach is q m b in
      Precedes.stage (omega arith)

-- a rule of stage O, where no rule of another stage is broken
pub standard_first : (G : Table) (reach : Reach) (bound : ℕ) (is : List PlainInst) (r : Rule) (n : ℕ)
    → IsUpToCalls G reach bound is → ((q : Rule) (m : ℕ) → ¬ (extended.Broken reach is q m))
    → ((q : Rule) (m : ℕ) → ¬ (std_types.Broken reach is q m))
    → stage.IsFirst (standard.Broken G reach is) stages.of_standard r n → IsFirstOfAll G reach bound is r n
standard_first G reach bound is r n u x y f = record { broken = Broken.of_standard r n f.broken; least = least } where
  least : (q : Rule) (m : ℕ) → Broken G reach bound is q m → Precedes r n q m
  least _ _ (Broken.of_layout q m b) = absurd (u.before.of_layout q m b)
  least _ _ (Broken.of_ids q m b) = absurd (u.before.of_ids q m (ids_stage G bound is q m b) b)
  least _ _ (Broken.of_types q m b) = never_before reach G bound is r q n m u.before b
  least _ _ (Broken.of_flow q m b) =
      elim (flow_stage reach G is q m b) [ inl e ↦ absurd (u.branches q m e b) | inr e ↦ absurd (u.values q m e b) ]
  least _ _ (Broken.of_calls q m b) = absurd (u.calls q m (calls_stage is q m b) b)
  least _ _ (Broken.of_extended q m b) = absurd (x q m b)
  least _ _ (Broken.of_std_types q m b) = absurd (y q m b)
  least _ _ (Broken.of_standard q m b) = let s = f.of_stage in let e = standard_stage G reach is q m b in
      within r q n m (omega arith) (f.least q m e b)

-- what the layers refuse is told
pub told_layout : (G : Table) (reach : Reach) (bound : ℕ) (is : List PlainInst) (s : Stop)
    → plan.IsRefusal (profile_of reach) G is s
    → IsTold G reach bound is s
told_layout G reach bound is Memory h = tt
told_layout G reach bound is (Fault f) h = (
  elim h.0 [
    | inl a ↦ profile_first G reach bound is f.rule f.inst a
    | inr b ↦
        layout_first G reach bound is f.rule f.inst b.0 b.1
  ],
  h.1,
)

pub told_ids : (G : Table) (reach : Reach) (bound : ℕ) (is : List PlainInst) (s : Stop)
    → ((r : Rule) (n : ℕ) → ¬ (layout.Broken (profile_of reach) G is r n)) → outcome.IsRefusal G bound is s
    → IsTold G reach bound is s
told_ids G reach bound is Memory u h = tt
told_ids G reach bound is (Fault f) u h = (ids_first G reach bound is f.rule f.inst u h.0, h.1)

pub told_types : (G : Table) (reach : Reach) (bound : ℕ) (is : List PlainInst) (s : Stop)
    → ((r : Rule) (n : ℕ) → ¬ (layout.Broken (profile_of reach) G is r n))
    → IsUnbroken (ids.Broken G bound is) stages.of_ids
    → types_outcome.IsRefusal G is s → IsTold G reach bound is s
told_types G reach bound is Memory u v h = tt
told_types G reach bound is (Fault f) u v h = (
  elim h.0 [
    | inl a ↦ roles_first G reach bound is f.rule f.inst u v a
    | inr b ↦
        types_first G reach bound is f.rule f.inst u v b.0 b.1
  ],
  h.1,
)

first_of_flow : (G : Table) (reach : Reach) (bound : ℕ) (is : List PlainInst) (r : Rule) (n : ℕ)
    → IsBefore G reach bound is
    → IsFirstOfFlow (fork_of reach) G is r n → IsFirstOfAll G reach bound is r n
first_of_flow G reach bound is r n u (IsFirstOfFlow.of_branches f) = branches_first G reach bound is r n u f
first_of_flow G reach bound is r n u (IsFirstOfFlow.of_values v f) = values_first G reach bound is r n u v f
first_of_flow G reach bound is r n u (IsFirstOfFlow.of_calls v w f) = calls_first G reach bound is r n u v w f

pub told_flow : (G : Table) (reach : Reach) (bound : ℕ) (is : List PlainInst) (s : Stop) → IsBefore G reach bound is
    → flow_outcome.IsRefusal (fork_of reach) G is s → IsTold G reach bound is s
told_flow G reach bound is Memory u h = tt
told_flow G reach bound is (Fault f) u h = (first_of_flow G reach bound is f.rule f.inst u h.0, h.1)

pub told_extended : (G : Table) (reach : Reach) (bound : ℕ) (is : List PlainInst) (s : Stop)
    → IsUpToCalls G reach bound is → extended_outcome.IsRefusal reach is s → IsTold G reach bound is s
told_extended G reach bound is Memory u h = tt
told_extended G reach bound is (Fault f) u h = (extended_first G reach bound is f.rule f.inst u h.0, h.1)

pub told_std_types : (G : Table) (reach : Reach) (bound : ℕ) (is : List PlainInst) (s : Stop)
    → IsUpToCalls G reach bound is → ((q : Rule) (m : ℕ) → ¬ (extended.Broken reach is q m))
    → std_types_outcome.IsRefusal reach is s → IsTold G reach bound is s
told_std_types G reach bound is Memory u x h = tt
told_std_types G reach bound is (Fault f) u x h = (std_types_first G reach bound is f.rule f.inst u x h.0, h.1)

pub told_standard : (G : Table) (reach : Reach) (bound : ℕ) (is : List PlainInst) (s : Stop)
    → IsUpToCalls G reach bound is → ((q : Rule) (m : ℕ) → ¬ (extended.Broken reach is q m))
    → ((q : Rule) (m : ℕ) → ¬ (std_types.Broken reach is q m))
    → standard.IsRefusal G reach is s → IsTold G reach bound is s
told_standard G reach bound is Memory u x y h = tt
told_standard G reach bound is (Fault f) u x y h =
    (standard_first G reach bound is f.rule f.inst u x y h.0, h.1)

-- two rules that are told
pub record SameRule (q r : Rule) (m n : ℕ) : Type 0 where
  pub rule : q ≡ r
  pub inst : m ≡ n

meet : (q r : Rule) (m n : ℕ) → Precedes q m r n → Precedes r n q m → SameRule q r m n
meet q r m n (Precedes.stage a) (Precedes.stage b) = absurd (omega arith)
meet q r m n (Precedes.stage a) (Precedes.instruction e b) = absurd (omega arith)
meet q r m n (Precedes.stage a) (Precedes.rule e f b) = absurd (omega arith)
meet q r m n (Precedes.instruction e a) (Precedes.stage b) = absurd (omega arith)
meet q r m n (Precedes.instruction e a) (Precedes.instruction f b) = absurd (omega arith)
meet q r m n (Precedes.instruction e a) (Precedes.rule f g b) = absurd (omega arith)
meet q r m n (Precedes.rule e f a) (Precedes.stage b) = absurd (omega arith)
meet q r m n (Precedes.rule e f a) (Precedes.instruction g b) = absurd (omega arith)
meet q r m n (Precedes.rule e f a) (Precedes.rule g h b) = let s : rank_of q ≡ rank_of r = omega arith in
    record { rule = rank_apart q r s; inst = f }

pub one_first : (G : Table) (reach : Reach) (bound : ℕ) (is : List PlainInst) (q r : Rule) (m n : ℕ)
    → IsFirstOfAll G reach bound is q m → IsFirstOfAll G reach bound is r n → SameRule q r m n
one_first G reach bound is q r m n f g = meet q r m n (f.least r n g.broken) (g.least q m f.broken)

-- a rule of the stage of calls is one on calls
pub of_calls_stage : (G : Table) (reach : Reach) (bound : ℕ) (is : List PlainInst) (r : Rule) (n : ℕ)
    → stage_of r ≡ stages.of_calls → Broken G reach bound is r n → calls.Broken is r n
of_calls_stage G reach bound is _ _ s (Broken.of_layout r n b) =
    elim (layout_stage reach G is r n b) [ inl e ↦ absurd (omega (arith, s, e)) | inr e ↦ absurd (omega (arith, s, e)) ]
of_calls_stage G reach bound is _ _ s (Broken.of_ids r n b) = let e = ids_stage G bound is r n b in
    absurd (omega (arith, s, e))
of_calls_stage G reach bound is _ _ s (Broken.of_types r n b) =
    elim (types_stage G is r n b) [ inl e ↦ absurd (omega (arith, s, e)) | inr e ↦ absurd (omega (arith, s, e)) ]
of_calls_stage G reach bound is _ _ s (Broken.of_flow r n b) =
    elim (flow_stage reach G is r n b) [ inl e ↦ absurd (omega (arith, s, e)) | inr e ↦ absurd (omega (arith, s, e)) ]
of_calls_stage G reach bound is _ _ s (Broken.of_calls r n b) = b
of_calls_stage G reach bound is _ _ s (Broken.of_extended r n b) = let e = extended_stage reach is r n b in
    absurd (omega (arith, s, e))
of_calls_stage G reach bound is _ _ s (Broken.of_std_types r n b) = let e = std_types_stage reach is r n b in
    absurd (omega (arith, s, e))
of_calls_stage G reach bound is _ _ s (Broken.of_standard r n b) = let e = standard_stage G reach is r n b in
    absurd (omega (arith, s, e))

-- a rule of the stage of Y10 is one on the types of calls of OpenCL.std
pub of_std_types_stage : (G : Table) (reach : Reach) (bound : ℕ) (is : List PlainInst) (r : Rule) (n : ℕ)
    → stage_of r ≡ stages.of_std_types → Broken G reach bound is r n → std_types.Broken reach is r n
of_std_types_stage G reach bound is _ _ s (Broken.of_layout r n b) =
    elim (layout_stage reach G is r n b) [ inl e ↦ absurd (omega (arith, s, e)) | inr e ↦ absurd (omega (arith, s, e)) ]
of_std_types_stage G reach bound is _ _ s (Broken.of_ids r n b) = let e = ids_stage G bound is r n b in
    absurd (omega (arith, s, e))
of_std_types_stage G reach bound is _ _ s (Broken.of_types r n b) =
    elim (types_stage G is r n b) [ inl e ↦ absurd (omega (arith, s, e)) | inr e ↦ absurd (omega (arith, s, e)) ]
of_std_types_stage G reach bound is _ _ s (Broken.of_flow r n b) =
    elim (flow_stage reach G is r n b) [ inl e ↦ absurd (omega (arith, s, e)) | inr e ↦ absurd (omega (arith, s, e)) ]
of_std_types_stage G reach bound is _ _ s (Broken.of_calls r n b) = let e = calls_stage is r n b in
    absurd (omega (arith, s, e))
of_std_types_stage G reach bound is _ _ s (Broken.of_extended r n b) = let e = extended_stage reach is r n b in
    absurd (omega (arith, s, e))
of_std_types_stage G reach bound is _ _ s (Broken.of_std_types r n b) = b
of_std_types_stage G reach bound is _ _ s (Broken.of_standard r n b) = let e = standard_stage G reach is r n b in
    absurd (omega (arith, s, e))

-- a rule of the last stage is one that the standard asks besides
pub of_last_stage : (G : Table) (reach : Reach) (bound : ℕ) (is : List PlainInst) (r : Rule) (n : ℕ)
    → stage_of r ≡ stages.of_standard → Broken G reach bound is r n → standard.Broken G reach is r n
of_last_stage G reach bound is _ _ s (Broken.of_layout r n b) =
    elim (layout_stage reach G is r n b) [ inl e ↦ absurd (omega (arith, s, e)) | inr e ↦ absurd (omega (arith, s, e)) ]
of_last_stage G reach bound is _ _ s (Broken.of_ids r n b) = let e = ids_stage G bound is r n b in
    absurd (omega (arith, s, e))
of_last_stage G reach bound is _ _ s (Broken.of_types r n b) =
    elim (types_stage G is r n b) [ inl e ↦ absurd (omega (arith, s, e)) | inr e ↦ absurd (omega (arith, s, e)) ]
of_last_stage G reach bound is _ _ s (Broken.of_flow r n b) =
    elim (flow_stage reach G is r n b) [ inl e ↦ absurd (omega (arith, s, e)) | inr e ↦ absurd (omega (arith, s, e)) ]
of_last_stage G reach bound is _ _ s (Broken.of_calls r n b) = let e = calls_stage is r n b in
    absurd (omega (arith, s, e))
of_last_stage G reach bound is _ _ s (Broken.of_extended r n b) = let e = extended_stage reach is r n b in
    absurd (omega (arith, s, e))
of_last_stage G reach bound is _ _ s (Broken.of_std_types r n b) = let e = std_types_stage reach is r n b in
    absurd (omega (arith, s, e))
of_last_stage G reach bound is _ _ s (Broken.of_standard r n b) = b

-- a rule of a later stage is not told before one of an earlier stage
pub never_earlier : (r q : Rule) (n m : ℕ) → stage_of q < stage_of r → ¬ (Precedes r n q m)
never_earlier r q n m l (Precedes.stage a) = omega (arith, l, a)
never_earlier r q n m l (Precedes.instruction e a) = omega (arith, l, e)
never_earlier r q n m l (Precedes.rule e f a) = omega (arith, l, e)
