-- The labels of an OpBranch and of an OpBranchConditional, which are read at their places.
use Rattle.std.proofs.Common.{◌≡◌, ◌≤◌, ◌∙◌, ◌⊎◌, inl, inr, ℕ, List, true, Some, nat_le, ◌&&◌, refl, sym, ap, subst}
use Rattle.std.proofs.Common.{arith}
use Rattle.std.specs.Prelude.{slice_get, option_and_then}
use Rattle.std.proofs.lemmas.Bool.{cases_Bool, cases_lt, eqb-true}
use Rattle.std.proofs.lemmas.Bool.Decides.{nat_tests}
use Rattle.spv_module.specs.declared.opcode.TheConstants as opcode
use Rattle.spv_table.specs.Table.{Table}
use Rattle.spv_module.specs.Operand.{PlainInst}
use Rattle.spv_layout.specs.declared.form.Role.TheVariants.{Label}
use Rattle.spv_layout.specs.Shape.{FitsShape, id_of}
use Rattle.spv_ids.specs.Definition.{IsUsedAt}
use Rattle.spv_flow.specs.declared.branches.code.Code.{Code}
use Rattle.spv_flow.specs.declared.branches.faults.Targets.{Targets}
use Rattle.spv_flow.specs.declared.branches.faults.Targets.TheVariants.{Lacking, Entering, Sound}
use Rattle.spv_flow.specs.branches.inner.Code.{insts_of, IsCode}
use Rattle.spv_flow.specs.branches.inner.Graph.{HasLabels, LacksLabel, LeadsToEntry, IsTargetOf, AreTargets, joined}
use Rattle.spv_flow.specs.branches.inner.Labels.{is_labelled, is_label_at, is_jump}
use Rattle.spv_flow.specs.branches.Target.{is_conditional, IsLabelOf, IsEntryLabel}
use Rattle.spv_flow.proofs.lemmas.branches.Labelled.{use_in, use_at, one_id, one_place}
use Rattle.spv_flow.proofs.lemmas.branches.Places.{label_told, no_label_told}

pub conditional_labelled : (x : ℕ) → is_conditional x ≡ true → is_labelled x ≡ true
conditional_labelled x h = ap is_labelled (eqb-true x opcode.BRANCH_CONDITIONAL h)

pub jump_labelled : (x : ℕ) → is_jump x ≡ true → is_labelled x ≡ true
jump_labelled x h = ap is_labelled (eqb-true x opcode.BRANCH h)

-- the id at a label's place
pub used_by : (G : Table) (is : List PlainInst) (at n x k : ℕ) (i : PlainInst) → slice_get is at ≡ Some i → i.opcode ≡ k
    → is_labelled k ≡ true → is_label_at k n ≡ true → FitsShape G i
    → Some x ≡ option_and_then id_of (slice_get i.operands n) → IsUsedAt G is at n x Label
used_by G is at n x k i there e h t fits g =
    use_at G is at n x Label i there (label_told G i n (Some x) (ap is_labelled e ∙ h)
    (ap (λ (o : ℕ). is_label_at o n) e ∙ t) g fits)

-- a label is at a label's place
pub placed_at : (G : Table) (is : List PlainInst) (at n x k : ℕ) (i : PlainInst) → slice_get is at ≡ Some i
    → i.opcode ≡ k → is_labelled k ≡ true → FitsShape G i → IsUsedAt G is at n x Label → is_label_at k n ≡ true
placed_at G is at n x k i there e h fits u = elim (cases_Bool (is_label_at k n)) [
  | inl t ↦ t
  | inr f ↦ absurd (no_label_told G i n x (ap is_labelled e ∙ h) (ap (λ (o : ℕ). is_label_at o n) e ∙ f) fits
      (use_in G is at n x Label i there u))
]

two_places : (n : ℕ) → nat_le 1 n && nat_le n 2 ≡ true → (n ≡ 1) ⊎ (n ≡ 2)
two_places n h =
    let low : 1 ≤ n = grind (arith, nat_tests) in
    let high : n ≤ 2 = grind (arith, nat_tests) in
    elim (cases_lt n 2) [ inl a ↦ inl (omega (arith, a, low)) | inr a ↦ inr (omega (arith, a, high)) ]

-- a label of an OpBranchConditional is one of the two
pub conditional_only : (G : Table) (is : List PlainInst) (at x y : ℕ) (i : PlainInst) → slice_get is at ≡ Some i
    → i.opcode ≡ opcode.BRANCH_CONDITIONAL → FitsShape G i → IsUsedAt G is at 1 x Label → IsUsedAt G is at 2 y Label
    → (n z : ℕ) → IsUsedAt G is at n z Label → (z ≡ x) ⊎ (z ≡ y)
conditional_only G is at x y i there e fits one two n z u =
    elim (two_places n (placed_at G is at n z opcode.BRANCH_CONDITIONAL i there e
    (let h : is_labelled opcode.BRANCH_CONDITIONAL ≡ true = refl in h) fits u)) [
      | inl s ↦ inl (one_id G is at 1 z x Label Label (subst (λ (j : ℕ). IsUsedAt G is at j z Label) s u) one)
      | inr s ↦ inr (one_id G is at 2 z y Label Label (subst (λ (j : ℕ). IsUsedAt G is at j z Label) s u) two)
    ]

-- that of an OpBranch is its one
pub jump_only : (G : Table) (is : List PlainInst) (at x : ℕ) (i : PlainInst) → slice_get is at ≡ Some i
    → i.opcode ≡ opcode.BRANCH → FitsShape G i → IsUsedAt G is at 0 x Label
    → (n z : ℕ) → IsUsedAt G is at n z Label → (z ≡ x) ⊎ (z ≡ x)
jump_only G is at x i there e fits one n z u =
    let s : n ≡ 0 = eqb-true n 0 (placed_at G is at n z opcode.BRANCH i there e
    (let h : is_labelled opcode.BRANCH ≡ true = refl in h) fits u) in
    inl (one_id G is at 0 z x Label Label (subst (λ (j : ℕ). IsUsedAt G is at j z Label) s u) one)

-- What is known of the two labels of a branch.
pub record HasTwo (G : Table) (is : List PlainInst) (at j k x y : ℕ) : Type 0 where
  pub one : IsUsedAt G is at j x Label
  pub two : IsUsedAt G is at k y Label
  pub only : (n z : ℕ) → IsUsedAt G is at n z Label → (z ≡ x) ⊎ (z ≡ y)

labels_of : (G : Table) (is : List PlainInst) (at j k x y m n : ℕ) → HasTwo G is at j k x y → IsLabelOf is x m
    → IsLabelOf is y n → HasLabels G is at
labels_of G is at j k x y m n h a b = λ p z u. elim (h.only p z u) [
  | inl e ↦ (m, subst (λ (w : ℕ). IsLabelOf is w m) (sym e) a)
  | inr e ↦ (n, subst (λ (w : ℕ). IsLabelOf is w n) (sym e) b)
]

lacks_one : (G : Table) (is : List PlainInst) (at j k x y : ℕ) → HasTwo G is at j k x y
    → ((m : ℕ) → ¬ (IsLabelOf is x m)) → LacksLabel G is at
lacks_one G is at j k x y h none = record { operand = j; id = x; used = h.one; none = none }

lacks_two : (G : Table) (is : List PlainInst) (at j k x y : ℕ) → HasTwo G is at j k x y
    → ((m : ℕ) → ¬ (IsLabelOf is y m)) → LacksLabel G is at
lacks_two G is at j k x y h none = record { operand = k; id = y; used = h.two; none = none }

no_entry : (G : Table) (c : Code) (x z m n : ℕ) → IsCode G c → z ≡ x → IsLabelOf (insts_of c) x m
    → ¬ (IsEntryLabel (insts_of c) m) → IsLabelOf (insts_of c) z n → ¬ (IsEntryLabel (insts_of c) n)
no_entry G c x z m n is e a not b =
    let s : m ≡ n = one_place G c x m n is a.defined (subst (λ (w : ℕ). IsLabelOf (insts_of c) w n) e b).defined in
    subst (λ (p : ℕ). ¬ (IsEntryLabel (insts_of c) p)) s not

free_of : (G : Table) (c : Code) (at j k x y m n : ℕ) → IsCode G c → HasTwo G (insts_of c) at j k x y
    → IsLabelOf (insts_of c) x m → IsLabelOf (insts_of c) y n → ¬ (IsEntryLabel (insts_of c) m)
    → ¬ (IsEntryLabel (insts_of c) n)
    → ¬ (LeadsToEntry G (insts_of c) at)
free_of G c at j k x y m n is h a b p q l =
    let t : IsLabelOf (insts_of c) l.id l.place = record { defined = l.defined; label = l.entry.label } in
    elim (h.only l.operand l.id l.used) [
      | inl e ↦ no_entry G c x l.id m l.place is e a p t l.entry
      | inr e ↦ no_entry G c y l.id n l.place is e b q t l.entry
    ]

pub both_targets : (G : Table) (c : Code) (at j k x y : ℕ) (s t : Targets) → IsCode G c
    → HasTwo G (insts_of c) at j k x y → IsTargetOf (insts_of c) x s → IsTargetOf (insts_of c) y t
    → AreTargets G (insts_of c) at (joined s t)
both_targets G c at j k x y Lacking t is h a b = lacks_one G (insts_of c) at j k x y h a
both_targets G c at j k x y Entering Lacking is h a b = lacks_two G (insts_of c) at j k x y h b
both_targets G c at j k x y Entering Entering is h a b = (
  labels_of G (insts_of c) at j k x y a.0 b.0 h a.1 b.1,
  record { operand = j; id = x; used = h.one; place = a.0; defined = a.1.defined; entry = a.2 },
)
both_targets G c at j k x y Entering Sound is h a b = (
  labels_of G (insts_of c) at j k x y a.0 b.0 h a.1 b.1,
  record { operand = j; id = x; used = h.one; place = a.0; defined = a.1.defined; entry = a.2 },
)
both_targets G c at j k x y Sound Lacking is h a b = lacks_two G (insts_of c) at j k x y h b
both_targets G c at j k x y Sound Entering is h a b = (
  labels_of G (insts_of c) at j k x y a.0 b.0 h a.1 b.1,
  record { operand = k; id = y; used = h.two; place = b.0; defined = b.1.defined; entry = b.2 },
)
both_targets G c at j k x y Sound Sound is h a b =
    (labels_of G (insts_of c) at j k x y a.0 b.0 h a.1 b.1, free_of G c at j k x y a.0 b.0 is h a.1 b.1 a.2 b.2)

pub one_target : (G : Table) (c : Code) (at j x : ℕ) (s : Targets) → IsCode G c → HasTwo G (insts_of c) at j j x x
    → IsTargetOf (insts_of c) x s → AreTargets G (insts_of c) at s
one_target G c at j x Lacking is h a = both_targets G c at j j x x Lacking Lacking is h a a
one_target G c at j x Entering is h a = both_targets G c at j j x x Entering Entering is h a a
one_target G c at j x Sound is h a = both_targets G c at j j x x Sound Sound is h a a
