-- Decorations that may not stand where they do, and what shows it.
use Rattle.std.proofs.Common.{◌≡◌, ◌<◌, ◌≤◌, ◌+◌, ◌∙◌, ◌⊎◌, if◌then◌else◌, nat_eq, ℕ, List}
use Rattle.std.proofs.Common.{Bool, true, false, Some, None, length, refl, sym, subst, inl, inr, arith}
use Rattle.std.specs.Prelude.{slice_get}
use Rattle.std.proofs.lemmas.Bool.{cases_lt, eqb-true}
use Rattle.std.proofs.lemmas.Option.{none-some, same_Some, slice_get_within}
use Rattle.spv_table.specs.Table.{Table}
use Rattle.spv_module.specs.declared.opcode.TheConstants as opcode
use Rattle.spv_module.specs.Operand.{PlainInst}
use Rattle.spv_module.specs.declared.fault.Rule.TheVariants.{O7}
use Rattle.spv_conditions.specs.Further.{IsGroup}
use Rattle.spv_evidence.specs.declared.evidence.Evidence.{Evidence}
use Rattle.spv_evidence.specs.declared.evidence.Evidence.TheVariants.{ByGroup, Earlier, Operand}
use Rattle.spv_declarations.specs.Decorated.{Has, HasOnMember, IsMisplaced}
use Rattle.spv_declarations.specs.Given.{Gives, HasIdBehind, NamesMember, NamesTarget, first_in}
use Rattle.spv_declarations.specs.Given.{given_by, group_by, member_given_by}
use Rattle.spv_declarations.specs.Shown.{IsBadTarget, IsGivenBadly}
use Rattle.spv_declarations.specs.Table.{IsNeverOnMembers, StandsOn}
use Rattle.spv_standard_evidence.specs.Declarations.{IsEvidence, Misplaces}
use Rattle.spv_standard_evidence.specs.inner.Declarations.{IsIdAt}
use Rattle.spv_standard_evidence.specs.inner.Placements.{IsGivenNever, IsGivenNeverAt}

-- the ways in which an instruction breaks O7
pub data Way (is : List PlainInst) (i : PlainInst) : Type 0 where
  with_id : i.opcode ≡ opcode.DECORATE → HasIdBehind i.operands → Way is i
  on_id : (x d : ℕ) → Gives d i x → ¬ (IsGroup is x) → ¬ (StandsOn is d x) → Way is i
  on_target : (g : ℕ) → group_by opcode.GROUP_DECORATE i ≡ Some g → IsGivenBadly is i g → Way is i
  on_member : (t k d : ℕ) → member_given_by i ≡ Some (t, k, d) → IsNeverOnMembers d → Way is i
  on_pair : (g t k : ℕ) → NamesMember i g t k → IsGivenNever is g → Way is i

id_way : (is : List PlainInst) (n : ℕ) (i : PlainInst) (x d : ℕ) → slice_get is n ≡ Some i → Has is (Gives d) x n
    → ¬ (StandsOn is d x) → Way is i
id_way is n i x d there (Has.own j t says not) stands =
    on_id x d (subst (λ (q : PlainInst). Gives d q x) (same_Some j i (sym t ∙ there)) says) not stands
id_way is n i x d there (Has.by_group j p g m t names u says) stands =
    let mine : NamesTarget i g x = subst (λ (q : PlainInst). NamesTarget q g x) (same_Some j i (sym t ∙ there)) names in
    on_target g mine.0 record {
      target = x;
      names = mine.1;
      place = m;
      inst = p;
      there = u;
      decoration = d;
      gives = says;
      bad = stands;
    }

member_way : (is : List PlainInst) (n : ℕ) (i : PlainInst) (t k d : ℕ) → slice_get is n ≡ Some i
    → HasOnMember is t k d n → IsNeverOnMembers d → Way is i
member_way is n i t k d there (HasOnMember.own j u e) never =
    on_member t k d (subst (λ (q : PlainInst). member_given_by q ≡ Some (t, k, d)) (same_Some j i (sym u ∙ there)) e)
    never
member_way is n i t k d there (HasOnMember.by_group j p g m u names v says) never =
    on_pair g t k (subst (λ (q : PlainInst). NamesMember q g t k) (same_Some j i (sym u ∙ there)) names)
    record { place = m; inst = p; there = v; decoration = d; gives = says; never = never }

pub way_of : (is : List PlainInst) (n : ℕ) (i : PlainInst) → slice_get is n ≡ Some i → IsMisplaced is n → Way is i
way_of is n i there (IsMisplaced.with_id j t o h) =
    let same = same_Some j i (sym t ∙ there) in
    with_id (subst (λ (q : PlainInst). q.opcode ≡ opcode.DECORATE) same o)
    (subst (λ (q : PlainInst). HasIdBehind q.operands) same h)
way_of is n i there (IsMisplaced.on_id x d h stands) = id_way is n i x d there h stands
way_of is n i there (IsMisplaced.on_member t k d h never) = member_way is n i t k d there h never

-- what names a group has its opcode, and gives no decoration itself
group_code : (n : ℕ) (i : PlainInst) (g : ℕ) → group_by n i ≡ Some g → i.opcode ≡ n
group_code n i g e = by (nat_eq i.opcode n) refl e where
  by : (b : Bool) → nat_eq i.opcode n ≡ b → (if b then first_in i.operands else None) ≡ Some g → i.opcode ≡ n
  by true t f = eqb-true i.opcode n t
  by false t f = absurd (none-some g f)

no_given : (i : PlainInst) (g : ℕ) (p : ℕ × ℕ) → group_by opcode.GROUP_DECORATE i ≡ Some g → ¬ (given_by i ≡ Some p)
no_given i g p e h =
    let code = group_code opcode.GROUP_DECORATE i g e in
    none-some p (rw code at h)

no_member : (i : PlainInst) (g : ℕ) (p : ℕ × ℕ × ℕ) → group_by opcode.GROUP_DECORATE i ≡ Some g
    → ¬ (member_given_by i ≡ Some p)
no_member i g p e h =
    let code = group_code opcode.GROUP_DECORATE i g e in
    none-some p (rw code at h)

pair_no_given : (i : PlainInst) (g : ℕ) (p : ℕ × ℕ) → group_by opcode.GROUP_MEMBER_DECORATE i ≡ Some g
    → ¬ (given_by i ≡ Some p)
pair_no_given i g p e h =
    let code = group_code opcode.GROUP_MEMBER_DECORATE i g e in
    none-some p (rw code at h)

pair_no_member : (i : PlainInst) (g : ℕ) (p : ℕ × ℕ × ℕ) → group_by opcode.GROUP_MEMBER_DECORATE i ≡ Some g
    → ¬ (member_given_by i ≡ Some p)
pair_no_member i g p e h =
    let code = group_code opcode.GROUP_MEMBER_DECORATE i g e in
    none-some p (rw code at h)

pair_no_group : (i : PlainInst) (g h : ℕ) → group_by opcode.GROUP_MEMBER_DECORATE i ≡ Some g
    → ¬ (group_by opcode.GROUP_DECORATE i ≡ Some h)
pair_no_group i g h e f =
    let code = group_code opcode.GROUP_MEMBER_DECORATE i g e in
    none-some h (rw code at f)

member_code : (i : PlainInst) (p : ℕ × ℕ × ℕ) → member_given_by i ≡ Some p
    → (i.opcode ≡ opcode.MEMBER_DECORATE) ⊎ (i.opcode ≡ opcode.MEMBER_DECORATE_STRING)
member_code i p e =
    by (nat_eq i.opcode opcode.MEMBER_DECORATE) refl (nat_eq i.opcode opcode.MEMBER_DECORATE_STRING) refl where
      by : (a : Bool) → nat_eq i.opcode opcode.MEMBER_DECORATE ≡ a → (b : Bool)
          → nat_eq i.opcode opcode.MEMBER_DECORATE_STRING ≡ b
          → (i.opcode ≡ opcode.MEMBER_DECORATE) ⊎ (i.opcode ≡ opcode.MEMBER_DECORATE_STRING)
      by true t b u = inl (eqb-true i.opcode opcode.MEMBER_DECORATE t)
      by false t true u = inr (eqb-true i.opcode opcode.MEMBER_DECORATE_STRING u)
      by false t false u = absurd (none-some p (rw (t, u) at e))

member_no_given : (i : PlainInst) (p : ℕ × ℕ × ℕ) (q : ℕ × ℕ) → member_given_by i ≡ Some p
    → ¬ (given_by i ≡ Some q)
member_no_given i p q e f = elim (member_code i p e) [
  | inl a ↦ none-some q (rw a at f)
  | inr b ↦ none-some q (rw b at f)
]

-- which of them it is, by what is known of the instruction
abbrev pub IsWithId : PlainInst → Type 0
IsWithId i = (i.opcode ≡ opcode.DECORATE) × HasIdBehind i.operands

pub id_shown : (is : List PlainInst) (i : PlainInst) (k : ℕ) → i.opcode ≡ opcode.DECORATE → IsIdAt i.operands k
    → Misplaces is i (Operand k)
id_shown is i k o at =
    Misplaces.with_id k record { called = o; behind = at.0; id = at.1.0; there = at.1.1 }

pub given_shown : (is : List PlainInst) (i : PlainInst) (p : ℕ × ℕ) → ¬ (IsWithId i) → given_by i ≡ Some p → Way is i
    → Misplaces is i (Operand 0)
given_shown is i p not e (with_id o h) = absurd (not (o, h))
given_shown is i p not e (on_id x d g n s) = Misplaces.on_id x d g n s
given_shown is i p not e (on_target g f h) = absurd (no_given i g p f e)
given_shown is i p not e (on_member t k d f h) = absurd (member_no_given i (t, k, d) p f e)
given_shown is i p not e (on_pair g t k f h) = absurd (pair_no_given i g p f.0 e)

pub member_shown : (is : List PlainInst) (i : PlainInst) (p : ℕ × ℕ × ℕ) → ¬ (IsWithId i) → given_by i ≡ None
    → member_given_by i ≡ Some p → Way is i → Misplaces is i (Operand 2)
member_shown is i p not none e (with_id o h) = absurd (not (o, h))
member_shown is i p not none e (on_id x d g n s) = absurd (none-some (x, d) (sym none ∙ g))
member_shown is i p not none e (on_target g f h) = absurd (no_member i g p f e)
member_shown is i p not none e (on_member t k d f h) = Misplaces.on_member t k d f h
member_shown is i p not none e (on_pair g t k f h) = absurd (pair_no_member i g p f.0 e)

pub target_bad : (is : List PlainInst) (i : PlainInst) (g : ℕ) → ¬ (IsWithId i) → given_by i ≡ None
    → member_given_by i ≡ None → group_by opcode.GROUP_DECORATE i ≡ Some g → Way is i → IsGivenBadly is i g
target_bad is i g not none other e (with_id o h) = absurd (not (o, h))
target_bad is i g not none other e (on_id x d f n s) = absurd (none-some (x, d) (sym none ∙ f))
target_bad is i g not none other e (on_target h f bad) =
    subst (λ (q : ℕ). IsGivenBadly is i q) (same_Some h g (sym f ∙ e)) bad
target_bad is i g not none other e (on_member t k d f h) = absurd (none-some (t, k, d) (sym other ∙ f))
target_bad is i g not none other e (on_pair h t k f n) = absurd (pair_no_group i h g f.0 e)

pub target_shown : (is : List PlainInst) (i : PlainInst) (g k m : ℕ) → group_by opcode.GROUP_DECORATE i ≡ Some g
    → IsBadTarget is i g k m → Misplaces is i (ByGroup k m)
target_shown is i g k m e t =
    Misplaces.on_target g t.target t.decoration k m t.inst e t.behind t.names t.there t.gives t.bad

pub record IsPair (is : List PlainInst) (i : PlainInst) (g : ℕ) : Type 0 where
  pub type : ℕ
  pub member : ℕ
  pub names : NamesMember i g type member
  pub never : IsGivenNever is g

pub pair_of : (is : List PlainInst) (i : PlainInst) → ¬ (IsWithId i) → given_by i ≡ None → member_given_by i ≡ None
    → group_by opcode.GROUP_DECORATE i ≡ None → Way is i → (g : ℕ) × IsPair is i g
pair_of is i not none other group (with_id o h) = absurd (not (o, h))
pair_of is i not none other group (on_id x d f n s) = absurd (none-some (x, d) (sym none ∙ f))
pair_of is i not none other group (on_target h f bad) = absurd (none-some h (sym group ∙ f))
pair_of is i not none other group (on_member t k d f h) = absurd (none-some (t, k, d) (sym other ∙ f))
pair_of is i not none other group (on_pair h t k f n) =
    (h, record { type = t; member = k; names = f; never = n })

pub pair_same : (is : List PlainInst) (i : PlainInst) (g h : ℕ) → group_by opcode.GROUP_MEMBER_DECORATE i ≡ Some g
    → IsPair is i h → IsPair is i g
pair_same is i g h e p = subst (λ (q : ℕ). IsPair is i q) (same_Some h g (sym p.names.0 ∙ e)) p

pub pair_shown : (is : List PlainInst) (i : PlainInst) (g m : ℕ) → IsPair is i g → IsGivenNeverAt is g m
    → Misplaces is i (Earlier m)
pair_shown is i g m p at =
    let e = at.0 in
    subst (λ (n : ℕ). Misplaces is i (Earlier n)) at.1
    (Misplaces.on_member_target g p.type p.member e.decoration e.place e.inst p.names e.there e.gives e.never)

-- a member of a group with a decoration that is never one of members
abbrev pub IsNeverPair : List PlainInst → PlainInst → Type 0
IsNeverPair is i = (g t k : ℕ) × NamesMember i g t k × IsGivenNever is g

pub never_pair : (is : List PlainInst) (i : PlainInst) → ¬ (IsWithId i) → given_by i ≡ None
    → member_given_by i ≡ None → group_by opcode.GROUP_DECORATE i ≡ None → Way is i → IsNeverPair is i
never_pair is i not none other group w =
    let p = pair_of is i not none other group w in
    (p.0, p.1.type, p.1.member, p.1.names, p.1.never)

never_here : (is : List PlainInst) (i : PlainInst) (g : ℕ) → group_by opcode.GROUP_MEMBER_DECORATE i ≡ Some g
    → IsNeverPair is i → IsPair is i g
never_here is i g e p =
    pair_same is i g p.0 e record { type = p.1; member = p.2; names = p.3; never = p.4 }

pub never_given : (is : List PlainInst) (i : PlainInst) (g : ℕ) → group_by opcode.GROUP_MEMBER_DECORATE i ≡ Some g
    → IsNeverPair is i → IsGivenNever is g
never_given is i g e p = let q = never_here is i g e p in q.never

pub never_shown : (is : List PlainInst) (i : PlainInst) (g m : ℕ) → group_by opcode.GROUP_MEMBER_DECORATE i ≡ Some g
    → IsNeverPair is i → IsGivenNeverAt is g m → Misplaces is i (Earlier m)
never_shown is i g m e p at = pair_shown is i g m (never_here is i g e p) at

pub none_named : (is : List PlainInst) (i : PlainInst) → group_by opcode.GROUP_MEMBER_DECORATE i ≡ None
    → IsNeverPair is i → ⊥
none_named is i e p = none-some p.0 (sym e ∙ p.3.0)

pub placed : (G : Table) (is : List PlainInst) (n : ℕ) (i : PlainInst) (e : Evidence) → slice_get is n ≡ Some i
    → Misplaces is i e → IsEvidence G is O7 n e
placed G is n i e there h = IsEvidence.misplaced n i e there h

pub misplaced_within : (is : List PlainInst) (n : ℕ) → IsMisplaced is n → n < length is
misplaced_within is n (IsMisplaced.with_id j t o h) = slice_get_within is n j t
misplaced_within is n (IsMisplaced.on_id x d (Has.own j t s h) b) = slice_get_within is n j t
misplaced_within is n (IsMisplaced.on_id x d (Has.by_group j p g m t f u s) b) = slice_get_within is n j t
misplaced_within is n (IsMisplaced.on_member t k d (HasOnMember.own j u e) b) = slice_get_within is n j u
misplaced_within is n (IsMisplaced.on_member t k d (HasOnMember.by_group j p g m u f v s) b) =
    slice_get_within is n j u

pub never_found : (is : List PlainInst) (g n d : ℕ) (i : PlainInst) → slice_get is n ≡ Some i → Gives d i g
    → IsNeverOnMembers d → IsGivenNeverAt is g n
never_found is g n d i there gives never =
    (record { place = n; inst = i; there = there; decoration = d; gives = gives; never = never }, refl)

pub never_more : (is : List PlainInst) (g n : ℕ) (i : PlainInst) → slice_get is n ≡ Some i
    → ¬ ((d : ℕ) × Gives d i g × IsNeverOnMembers d)
    → ((m : ℕ) (j : PlainInst) → m < n → slice_get is m ≡ Some j → ¬ ((d : ℕ) × Gives d j g × IsNeverOnMembers d))
    → (m : ℕ) (j : PlainInst) → m < n + 1 → slice_get is m ≡ Some j
    → ¬ ((d : ℕ) × Gives d j g × IsNeverOnMembers d)
never_more is g n i there none before m j lt at h = elim (cases_lt m n) [
  | inl l ↦ before m j l at h
  | inr ge ↦
      let e : m ≡ n = omega (arith, lt, ge) in
      let here : slice_get is n ≡ Some j = subst (λ (k : ℕ). slice_get is k ≡ Some j) e at in
      none (subst (λ (q : PlainInst). (d : ℕ) × Gives d q g × IsNeverOnMembers d) (same_Some j i (sym here ∙ there)) h)
]

pub never_missed : (is : List PlainInst) (g total n : ℕ) → total ≡ length is → total ≤ n
    → ((m : ℕ) (j : PlainInst) → m < n → slice_get is m ≡ Some j → ¬ ((d : ℕ) × Gives d j g × IsNeverOnMembers d))
    → IsGivenNever is g → ⊥
never_missed is g total n e all none h =
    let w = slice_get_within is h.place h.inst h.there in
    none h.place h.inst (omega (arith, w, e, all)) h.there (h.decoration, h.gives, h.never)
