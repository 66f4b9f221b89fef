-- Of which part a broken rule is, by its name.
use Rattle.std.proofs.Common.{◌≡◌, ◌⊎◌, ℕ, List, true, false, refl, inl, inr, subst, arith}
use Rattle.std.specs.Prelude.{Some, slice_get}
use Rattle.spv_table.specs.Table.{Table}
use Rattle.spv_module.specs.Operand.{PlainInst}
use Rattle.spv_module.specs.declared.fault.Rule.{Rule}
use Rattle.spv_module.specs.declared.fault.Rule.TheVariants as rule
use Rattle.spv_layout.specs.First.{stage_of, IsFirst, IsUnbroken}
use Rattle.spv_layout.specs.Stage as stages
use Rattle.spv_type_rules.specs.roles.Broken as roles
use Rattle.spv_capabilities.specs.Keeps as capabilities
use Rattle.spv_ops.specs.Typed.{IsTyped}
use Rattle.spv_type_rules.specs.Keeps as rules
use Rattle.spv_type_rules.specs.roles.Outcome.{AreInRole}
use Rattle.spv_check.specs.types.Broken as types
use Rattle.spv_flow.specs.branches.Broken as branches
use Rattle.spv_flow.specs.declared.branches.fork.Fork.{Fork}
use Rattle.spv_flow.specs.calls.Broken as calls
use Rattle.spv_check.specs.flow.Outcome.{IsFirstOfFlow}
use Rattle.spv_check.proofs.Decided.{held}
use Rattle.spv_check.proofs.RulesDecided.{plays_or_not}
use Rattle.spv_explain.specs.inner.Kinds.{is_of_roles, is_of_capabilities, is_of_operations, is_of_values, is_of_calls}

-- rules by what is said of them
pub the_role : (r : Rule) → is_of_roles r ≡ true → r ≡ rule.Y1
the_role rule.Y1 e = refl
the_role _ e = absurd (let h : false ≡ true = e in cc)

pub no_capability : (G : Table) (is : List PlainInst) (r : Rule) (n : ℕ) (i : PlainInst) → is_of_capabilities r ≡ false
    → ¬ (¬ (capabilities.Keeps G is r n i))
no_capability G is rule.C1 n i e h = absurd (let x : true ≡ false = e in cc)
no_capability G is rule.C2 n i e h = absurd (let x : true ≡ false = e in cc)
no_capability G is rule.M1 n i e h = absurd (let x : true ≡ false = e in cc)
no_capability G is rule.E1 n i e h = absurd (let x : true ≡ false = e in cc)
no_capability G is rule.E2 n i e h = absurd (let x : true ≡ false = e in cc)
no_capability G is _ n i e h = h tt

pub no_type : (G : Table) (is : List PlainInst) (r : Rule) (n : ℕ) (i : PlainInst) → is_of_capabilities r ≡ true
    → ¬ (¬ (rules.Keeps (IsTyped G is) is r n i))
no_type G is rule.C1 n i e h = h tt
no_type G is rule.C2 n i e h = h tt
no_type G is rule.M1 n i e h = h tt
no_type G is rule.E1 n i e h = h tt
no_type G is rule.E2 n i e h = h tt
no_type G is _ n i e h = absurd (let x : false ≡ true = e in cc)

pub seventh : (r : Rule) → stage_of r ≡ stages.of_values → is_of_values r ≡ true
seventh rule.A1 e = refl
seventh rule.A2 e = refl
seventh _ e = absurd (omega (arith, e))

pub of_values : (r : Rule) → is_of_values r ≡ true → stage_of r ≡ stages.of_values
of_values rule.A1 e = refl
of_values rule.A2 e = refl
of_values _ e = absurd (let h : false ≡ true = e in cc)

pub eighth : (r : Rule) → stage_of r ≡ stages.of_calls → is_of_calls r ≡ true
eighth rule.G1 e = refl
eighth _ e = absurd (omega (arith, e))

pub of_calls : (r : Rule) → is_of_calls r ≡ true → stage_of r ≡ stages.of_calls
of_calls rule.G1 e = refl
of_calls _ e = absurd (let h : false ≡ true = e in cc)

pub the_call : (r : Rule) → is_of_calls r ≡ true → r ≡ rule.G1
the_call rule.G1 e = refl
the_call _ e = absurd (let h : false ≡ true = e in cc)

-- the rule on roles is broken where it is told
pub roles_of : (G : Table) (is : List PlainInst) (n : ℕ) → types.Broken G is rule.Y1 n → roles.Broken G is rule.Y1 n
roles_of G is n (types.of_roles _ _ b) = b
roles_of G is n (types.of_capabilities _ _ i at h) = absurd (h tt)
roles_of G is n (types.of_types _ _ i at h) = absurd (h tt)

-- a rule on capabilities is not kept where it is told
pub capabilities_of : (G : Table) (is : List PlainInst) (r : Rule) (n : ℕ) → is_of_capabilities r ≡ true
    → types.Broken G is r n
    → (i : PlainInst) × (slice_get is n ≡ Some i) × (¬ (capabilities.Keeps G is r n i))
capabilities_of G is _ _ e (types.of_roles _ _ (roles.miscast n k x r used plays)) =
    absurd (let h : false ≡ true = e in cc)
capabilities_of G is _ _ e (types.of_capabilities r n i at h) = (i, at, h)
capabilities_of G is _ _ e (types.of_types r n i at h) = absurd (no_type G is r n i e h)

-- and so a rule on types
pub types_of : (G : Table) (is : List PlainInst) (r : Rule) (n : ℕ) → is_of_roles r ≡ false
    → is_of_capabilities r ≡ false → types.Broken G is r n
    → (i : PlainInst) × (slice_get is n ≡ Some i) × (¬ (rules.Keeps (IsTyped G is) is r n i))
types_of G is _ _ d e (types.of_roles _ _ (roles.miscast n k x r used plays)) = absurd (let h : true ≡ false = d in cc)
types_of G is _ _ d e (types.of_capabilities r n i at h) = absurd (no_capability G is r n i e h)
types_of G is _ _ d e (types.of_types r n i at h) = (i, at, h)

-- of these, the one on operations
pub the_operation : (r : Rule) → is_of_operations r ≡ true → r ≡ rule.Y5
the_operation rule.Y5 e = refl
the_operation _ e = absurd (let h : false ≡ true = e in cc)

pub operations_of : (G : Table) (is : List PlainInst) (r : Rule) (n : ℕ) → is_of_operations r ≡ true
    → types.Broken G is r n
    → (i : PlainInst) × (slice_get is n ≡ Some i) × (¬ (IsTyped G is n i))
operations_of G is _ _ e (types.of_roles _ _ (roles.miscast n k x r used plays)) =
    absurd (let h : false ≡ true = e in cc)
operations_of G is _ _ e (types.of_capabilities r n i at h) =
    absurd (subst (λ q. ¬ (capabilities.Keeps G is q n i)) (the_operation r e) h tt)
operations_of G is _ _ e (types.of_types r n i at h) =
    (i, at, subst (λ q. ¬ (rules.Keeps (IsTyped G is) is q n i)) (the_operation r e) h)

-- and the others, which say nothing of operations
aside : (G : Table) (is : List PlainInst) (r : Rule) (n : ℕ) (i : PlainInst) → is_of_operations r ≡ false
    → rules.Keeps (λ m j. Unit {0}) is r n i → rules.Keeps (IsTyped G is) is r n i
aside G is rule.Y2 n i e h = h
aside G is rule.Y3 n i e h = h
aside G is rule.Y4 n i e h = h
aside G is rule.Y5 n i e h = absurd (let x : true ≡ false = e in cc)
aside G is rule.Y6 n i e h = h
aside G is rule.Y7 n i e h = h
aside G is rule.Y8 n i e h = h
aside G is _ n i e h = tt

pub others_of : (G : Table) (is : List PlainInst) (r : Rule) (n : ℕ) → is_of_roles r ≡ false
    → is_of_capabilities r ≡ false → is_of_operations r ≡ false → types.Broken G is r n
    → (i : PlainInst) × (slice_get is n ≡ Some i) × (¬ (rules.Keeps (λ m j. Unit {0}) is r n i))
others_of G is r n d e o b = let t = types_of G is r n d e b in (t.0, t.1, λ h. t.2 (aside G is r n t.0 o h))

-- a broken rule of stage 4 or 5
pub broken_in : (G : Table) (is : List PlainInst) (r : Rule) (n : ℕ)
    → (IsFirst (types.Broken G is) stages.of_roles r n
    ⊎ (IsUnbroken (types.Broken G is) stages.of_roles × IsFirst (types.Broken G is) stages.of_types r n))
    → types.Broken G is r n
broken_in G is r n (inl f) = f.broken
broken_in G is r n (inr f) = f.1.broken

-- where the rule is none on roles, no rule on roles is broken, so all uses are in their roles
pub in_roles : (G : Table) (is : List PlainInst) → IsUnbroken (types.Broken G is) stages.of_roles → AreInRole G is
in_roles G is u = record {
  each = λ n k x r used. held (plays_or_not is r x)
      (λ h. u rule.Y1 n refl (types.of_roles rule.Y1 n (roles.miscast n k x r used h)));
}

fourth : (r : Rule) → stage_of r ≡ stages.of_roles → is_of_roles r ≡ true
fourth rule.Y1 e = refl
fourth _ e = absurd (omega (arith, e))

pub later : (G : Table) (is : List PlainInst) (r : Rule) (n : ℕ) → is_of_roles r ≡ false
    → (IsFirst (types.Broken G is) stages.of_roles r n
    ⊎ (IsUnbroken (types.Broken G is) stages.of_roles × IsFirst (types.Broken G is) stages.of_types r n))
    → AreInRole G is
later G is r n d (inl f) = let e = fourth r f.of_stage in absurd cc
later G is r n d (inr f) = in_roles G is f.0

-- the rules on values, on calls and on branches
pub values_of : (fork : Fork) (G : Table) (is : List PlainInst) (r : Rule) (n : ℕ) → is_of_values r ≡ true
    → IsFirstOfFlow fork G is r n
    → IsUnbroken (branches.Broken fork G is) stages.of_branches × branches.Broken fork G is r n
values_of fork G is r n e (IsFirstOfFlow.of_branches f) = let s = of_values r e in let t = f.of_stage in
    absurd (omega (arith, s, t))
values_of fork G is r n e (IsFirstOfFlow.of_values u f) = (u, f.broken)
values_of fork G is r n e (IsFirstOfFlow.of_calls u v f) = let s = of_values r e in let t = f.of_stage in
    absurd (omega (arith, s, t))

pub calls_of : (fork : Fork) (G : Table) (is : List PlainInst) (r : Rule) (n : ℕ) → is_of_calls r ≡ true
    → IsFirstOfFlow fork G is r n
    → calls.Broken is rule.G1 n
calls_of fork G is r n e (IsFirstOfFlow.of_branches f) = let s = of_calls r e in let t = f.of_stage in
    absurd (omega (arith, s, t))
calls_of fork G is r n e (IsFirstOfFlow.of_values u f) = let s = of_calls r e in let t = f.of_stage in
    absurd (omega (arith, s, t))
calls_of fork G is r n e (IsFirstOfFlow.of_calls u v f) = subst (λ q. calls.Broken is q n) (the_call r e) f.broken

pub branches_of : (fork : Fork) (G : Table) (is : List PlainInst) (r : Rule) (n : ℕ) → is_of_values r ≡ false
    → is_of_calls r ≡ false
    → IsFirstOfFlow fork G is r n → IsFirst (branches.Broken fork G is) stages.of_branches r n
branches_of fork G is r n d e (IsFirstOfFlow.of_branches f) = f
branches_of fork G is r n d e (IsFirstOfFlow.of_values u f) = let s = seventh r f.of_stage in absurd cc
branches_of fork G is r n d e (IsFirstOfFlow.of_calls u v f) = let s = eighth r f.of_stage in absurd cc
