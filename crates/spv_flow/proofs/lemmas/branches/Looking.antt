-- The labels of a branch, operand by operand.
use Rattle.std.proofs.Common.{◌≡◌, ◌≤◌, ◌<◌, ◌+◌, inl, inr, ℕ, Bool, true, false, Some, length, subst, arith}
use Rattle.std.specs.Prelude.{slice_get}
use Rattle.std.proofs.lemmas.Bool.{cases_lt}
use Rattle.spv_table.specs.Table.{Table}
use Rattle.spv_module.specs.Operand.{PlainInst}
use Rattle.spv_layout.specs.declared.form.Role.TheVariants.{Label}
use Rattle.spv_ids.specs.Definition.{IsDefinedAt, IsUsedAt}
use Rattle.spv_flow.specs.declared.branches.code.Code.{Code}
use Rattle.spv_flow.specs.branches.inner.Code.{insts_of, IsCode}
use Rattle.spv_flow.specs.branches.inner.Graph.{HasLabels, LeadsToEntry}
use Rattle.spv_flow.specs.branches.Target.{IsLabelOf, IsEntryLabel}
use Rattle.spv_flow.proofs.lemmas.branches.Labelled.{use_in, use_within, one_id, one_place}

-- The first operands that are labels are of OpLabels; whether one is that of an entry block is known.
pub record IsLooking (G : Table) (c : Code) (at : ℕ) (enters : Bool) (n : ℕ) : Type 0 where
  pub labels : (k x : ℕ) → k < n → IsUsedAt G (insts_of c) at k x Label → (m : ℕ) × IsLabelOf (insts_of c) x m
  pub entry : enters ≡ true → LeadsToEntry G (insts_of c) at
  pub free : enters ≡ false → (k x m : ℕ) → k < n → IsUsedAt G (insts_of c) at k x Label → IsDefinedAt (insts_of c) x m
      → ¬ (IsEntryLabel (insts_of c) m)

pub looking_start : (G : Table) (c : Code) (at : ℕ) → IsLooking G c at false 0
looking_start G c at = record {
  labels = λ k x lt. absurd (omega (arith, lt));
  entry = λ e. cc;
  free = λ e k x m lt. absurd (omega (arith, lt));
}

-- operands that are no label, or one that an operand before operand n is
looking_to : (G : Table) (c : Code) (at : ℕ) (enters : Bool) (n m : ℕ)
    → ((k x : ℕ) → k < m → IsUsedAt G (insts_of c) at k x Label
    → (j : ℕ) × (j < n) × IsUsedAt G (insts_of c) at j x Label)
    → IsLooking G c at enters n → IsLooking G c at enters m
looking_to G c at enters n m below before = record {
  labels = λ k x lt u. (let b = below k x lt u in before.labels b.0 x b.1 b.2);
  entry = before.entry;
  free = λ e k x m lt u. (let b = below k x lt u in before.free e b.0 x m b.1 b.2);
}

-- an operand that is no label
pub looking_other : (G : Table) (c : Code) (at : ℕ) (enters : Bool) (n : ℕ)
    → ((x : ℕ) → ¬ (IsUsedAt G (insts_of c) at n x Label)) → IsLooking G c at enters n → IsLooking G c at enters (n + 1)
looking_other G c at enters n none before = looking_to G c at enters n (n + 1) (λ k x lt u. elim (cases_lt k n) [
  | inl less ↦ (k, less, u)
  | inr more ↦ (let e : k ≡ n = omega (arith, lt, more) in
      absurd (none x (subst (λ (j : ℕ). IsUsedAt G (insts_of c) at j x Label) e u)))
]) before

-- operands that are no label, or the same as operand n
pub looking_past : (G : Table) (c : Code) (at : ℕ) (enters : Bool) (n m : ℕ)
    → ((k x : ℕ) → n < k → k < m → IsUsedAt G (insts_of c) at k x Label → IsUsedAt G (insts_of c) at n x Label)
    → IsLooking G c at enters (n + 1) → IsLooking G c at enters m
looking_past G c at enters n m past before = looking_to G c at enters (n + 1) m (λ k x lt u. elim (cases_lt k (n + 1)) [
  | inl less ↦ (k, less, u)
  | inr more ↦ (n, omega arith, past k x (omega (arith, more)) lt u)
]) before

-- the label at an operand
labels_more : (G : Table) (c : Code) (at : ℕ) (enters : Bool) (n y t : ℕ) → IsUsedAt G (insts_of c) at n y Label
    → IsLabelOf (insts_of c) y t → IsLooking G c at enters n
    → (k x : ℕ) → k < n + 1 → IsUsedAt G (insts_of c) at k x Label → (m : ℕ) × IsLabelOf (insts_of c) x m
labels_more G c at enters n y t used label before k x lt u = elim (cases_lt k n) [
  | inl less ↦ before.labels k x less u
  | inr more ↦ (
      let e : k ≡ n = omega (arith, lt, more) in
      let f : y ≡ x = one_id G (insts_of c) at n y x Label Label used
      (subst (λ (j : ℕ). IsUsedAt G (insts_of c) at j x Label) e u) in
      (t, subst (λ (z : ℕ). IsLabelOf (insts_of c) z t) f label))
]

-- that of an entry block
pub looking_enters : (G : Table) (c : Code) (at : ℕ) (enters : Bool) (n y t : ℕ) → IsUsedAt G (insts_of c) at n y Label
    → IsLabelOf (insts_of c) y t → IsEntryLabel (insts_of c) t → IsLooking G c at enters n
    → IsLooking G c at true (n + 1)
looking_enters G c at enters n y t used label is_entry before = record {
  labels = labels_more G c at enters n y t used label before;
  entry = λ e. record { operand = n; id = y; used = used; place = t; defined = label.defined; entry = is_entry };
  free = λ e. cc;
}

-- that of another block
pub looking_passes : (G : Table) (c : Code) (at : ℕ) (enters : Bool) (n y t : ℕ) → IsCode G c
    → IsUsedAt G (insts_of c) at n y Label → IsLabelOf (insts_of c) y t → ¬ (IsEntryLabel (insts_of c) t)
    → IsLooking G c at enters n
    → IsLooking G c at enters (n + 1)
looking_passes G c at enters n y t is used label no_entry before = record {
  labels = labels_more G c at enters n y t used label before;
  entry = before.entry;
  free = λ e k x m lt u d. elim (cases_lt k n) [
    | inl less ↦ before.free e k x m less u d
    | inr more ↦ (
        let s : k ≡ n = omega (arith, lt, more) in
        let f : y ≡ x = one_id G (insts_of c) at n y x Label Label used
        (subst (λ (j : ℕ). IsUsedAt G (insts_of c) at j x Label) s u) in
        let l : IsLabelOf (insts_of c) x t = subst (λ (z : ℕ). IsLabelOf (insts_of c) z t) f label in
        let same : t ≡ m = one_place G c x t m is l.defined d in
        subst (λ (z : ℕ). ¬ (IsEntryLabel (insts_of c) z)) same no_entry)
  ];
}

all_below : (G : Table) (c : Code) (at n k x : ℕ) (i : PlainInst) → slice_get (insts_of c) at ≡ Some i
    → length i.operands ≤ n → IsUsedAt G (insts_of c) at k x Label → k < n
all_below G c at n k x i there all u =
    let w = use_within G i k x Label (use_in G (insts_of c) at k x Label i there u) in omega (arith, w, all)

-- all operands
pub looking_labels : (G : Table) (c : Code) (at : ℕ) (enters : Bool) (n : ℕ) (i : PlainInst)
    → slice_get (insts_of c) at ≡ Some i → length i.operands ≤ n → IsLooking G c at enters n
    → HasLabels G (insts_of c) at
looking_labels G c at enters n i there all looking =
    λ k x u. looking.labels k x (all_below G c at n k x i there all u) u

pub looking_free : (G : Table) (c : Code) (at : ℕ) (enters : Bool) (n : ℕ) (i : PlainInst)
    → slice_get (insts_of c) at ≡ Some i → length i.operands ≤ n → enters ≡ false → IsLooking G c at enters n
    → ¬ (LeadsToEntry G (insts_of c) at)
looking_free G c at enters n i there all e looking =
    λ h. looking.free e h.operand h.id h.place
    (all_below G c at n h.operand h.id i there all h.used) h.used h.defined h.entry
