-- What is asked for a branch: its labels are no local values. An OpLabel uses nothing.
use Rattle.std.proofs.Common.{◌≡◌, ◌≢◌, ◌≤◌, ◌<◌, ◌∙◌, inl, inr, ℕ, List, true, Some, nat_le, ◌&&◌, refl, sym, ap}
use Rattle.std.proofs.Common.{subst, arith}
use Rattle.std.specs.Prelude.{slice_get, option_and_then}
use Rattle.std.proofs.lemmas.Bool.{cases_Bool, cases_eq, eqb-true}
use Rattle.std.proofs.lemmas.Bool.Decides.{nat_tests}
use Rattle.spv_module.specs.declared.opcode.TheConstants as opcode
use Rattle.spv_table.specs.Table.{Table}
use Rattle.spv_module.specs.Operand.{PlainInst}
use Rattle.spv_module.specs.declared.fault.Rule.TheVariants.{F1}
use Rattle.spv_layout.specs.declared.form.Role.{Role}
use Rattle.spv_layout.specs.declared.form.Role.TheVariants.{Label}
use Rattle.spv_layout.specs.Shape.{IsUse, id_of}
use Rattle.spv_ids.specs.Definition.{IsUsedAt}
use Rattle.spv_graphs.specs.declared.queries.Query.{Query}
use Rattle.spv_flow.specs.branches.Broken.{Broken}
use Rattle.spv_flow.specs.branches.inner.Labels.{is_label_at}
use Rattle.spv_flow.specs.branches.Target.{is_label, is_branch, IsOp, IsLabelOf}
use Rattle.spv_flow.specs.branches.Ready.{IsLocalValue}
use Rattle.spv_flow.proofs.lemmas.branches.Labelled.{use_in, use_at, op_tells, op_holds}
use Rattle.spv_flow.proofs.lemmas.branches.Places.{label_told, branch_labelled, first_use, label_use}
use Rattle.spv_flow.specs.declared.walks.code.Code.{Code}
use Rattle.spv_flow.specs.walks.inner.Code.{insts_of, IsCode}
use Rattle.spv_flow.specs.walks.inner.Due.{IsUseQuery, HasUseQuery}
use Rattle.spv_flow.proofs.lemmas.walks.Coded.{one_place}
use Rattle.spv_flow.proofs.lemmas.walks.Ended.{label_typeless}

-- a local value is no label
label_unlocal : (G : Table) (c : Code) (x m : ℕ) → IsCode G c → IsLocalValue (insts_of c) x
    → ¬ (IsLabelOf (insts_of c) x m)
label_unlocal G c x m is v l =
    let e : m ≡ v.place = one_place G c x m v.place is l.defined v.defined in
    let op : IsOp (insts_of c) v.place is_label = subst (λ (k : ℕ). IsOp (insts_of c) k is_label) e l.label in
    let k = eqb-true v.inst.opcode opcode.LABEL (op_tells (insts_of c) v.place v.inst is_label v.there op) in
    let none = label_typeless G v.inst (is.plan.fits v.place v.inst v.there) k in
    let some = v.typed in
    cc

-- at a label's place a branch uses none
label_value : (G : Table) (c : Code) (at n x : ℕ) (r : Role) (i : PlainInst) → IsCode G c
    → slice_get (insts_of c) at ≡ Some i → is_branch i.opcode ≡ true → is_label_at i.opcode n ≡ true
    → IsUsedAt G (insts_of c) at n x r
    → ¬ (IsLocalValue (insts_of c) x)
label_value G c at n x r i is there b t u v =
    let w = use_in G (insts_of c) at n x r i there u in
    let told : IsUse G i n x Label = label_told G i n (Some x) (branch_labelled i.opcode b) t
    (sym (ap (option_and_then id_of) w.operand_at ∙ w.id)) (is.plan.fits at i there) in
    is.branches F1 at refl (Broken.no_label at n x (inl (op_holds (insts_of c) at i is_branch there b))
    (use_at G (insts_of c) at n x Label i there told) (λ m. label_unlocal G c x m is v))

-- What is asked for a branch or an OpLabel is asked for the first operand of an OpBranchConditional or an OpSwitch.

le_true : (a b : ℕ) → a ≤ b → nat_le a b ≡ true
le_true a b h = grind (arith, nat_tests)

branch_in : (x : ℕ) → opcode.LABEL ≤ x → x ≤ opcode.SWITCH → x ≢ opcode.LABEL → is_branch x ≡ true
branch_in x lo hi apart =
    let h : nat_le opcode.BRANCH x && nat_le x opcode.SWITCH ≡ true = rw
    (le_true opcode.BRANCH x (omega (arith, lo, apart)), le_true x opcode.SWITCH hi) refl in h

abbrev pub Within : ℕ → Type 0
Within x = (opcode.LABEL ≤ x) × (x ≤ opcode.SWITCH)

pub within_by : (x : ℕ) → nat_le opcode.LABEL x && nat_le x opcode.SWITCH ≡ true → Within x
within_by x h = (grind (arith, nat_tests), grind (arith, nat_tests))

by_branch : (G : Table) (c : Code) (starts : List ℕ) (b at n : ℕ) (i : PlainInst) (a : Query) → IsCode G c
    → slice_get (insts_of c) at ≡ Some i → is_branch i.opcode ≡ true → IsUseQuery G (insts_of c) starts b at n a
    → (n ≡ 0) × (i.opcode ≢ opcode.BRANCH)
by_branch G c starts b at n i a is there h u = elim (cases_Bool (is_label_at i.opcode n)) [
  | inl t ↦ absurd (label_value G c at n u.id u.role i is there h t u.used u.local)
  | inr f ↦ first_use G i n u.id u.role h f (is.plan.fits at i there)
      (use_in G (insts_of c) at n u.id u.role i there u.used)
]

first_query : (G : Table) (c : Code) (starts : List ℕ) (b at n : ℕ) (i : PlainInst) (a : Query) → IsCode G c
    → slice_get (insts_of c) at ≡ Some i → Within i.opcode → IsUseQuery G (insts_of c) starts b at n a
    → (n ≡ 0) × (opcode.BRANCH < i.opcode)
first_query G c starts b at n i a is there within u =
    let lo = within.0 in
    elim (cases_eq i.opcode opcode.LABEL) [
      | inl e ↦ absurd (label_use G i n u.id u.role e (is.plan.fits at i there)
          (use_in G (insts_of c) at n u.id u.role i there u.used))
      | inr apart ↦ (let k = by_branch G c starts b at n i a is there (branch_in i.opcode lo within.1 apart) u in
          let m = k.1 in (k.0, omega (arith, lo, apart, m)))
    ]

pub none_asked_here : (G : Table) (c : Code) (starts : List ℕ) (b at : ℕ) (i : PlainInst) (a : Query) → IsCode G c
    → slice_get (insts_of c) at ≡ Some i → Within i.opcode → i.opcode ≤ opcode.BRANCH
    → ¬ (HasUseQuery G (insts_of c) starts b at a)
none_asked_here G c starts b at i a is there within le (n, u) =
    let h = (first_query G c starts b at n i a is there within u).1 in omega (arith, h, le)

pub at_first : (G : Table) (c : Code) (starts : List ℕ) (b at : ℕ) (i : PlainInst) (a : Query) → IsCode G c
    → slice_get (insts_of c) at ≡ Some i → Within i.opcode → HasUseQuery G (insts_of c) starts b at a
    → IsUseQuery G (insts_of c) starts b at 0 a
at_first G c starts b at i a is there within (n, u) =
    subst (λ (k : ℕ). IsUseQuery G (insts_of c) starts b at k a)
    (first_query G c starts b at n i a is there within u).0 u
