-- Which operands are labels, by the rows of the table of shapes.
use Rattle.std.proofs.Common.{◌≡◌, ◌≢◌, ◌∙◌, ◌≤◌, ◌<◌, ◌+◌, ◌-◌, ◌%◌, ℕ, zero, suc, List, [], ◌∷◌, Bool, true, false}
use Rattle.std.proofs.Common.{Option, Some, None, length, nat_eq, nat_lt, nat_le, ◌&&◌, inl, inr, refl, sym, ap, subst}
use Rattle.std.proofs.Common.{arith}
use Rattle.std.specs.Prelude.{slice_get, option_and_then, MatchOption, MatchBool}
use Rattle.std.proofs.Math.Nat.{mod-lt, mod-eq_of_lt, add-mod_left, div-add-mod}
use Rattle.std.proofs.lemmas.Bool.{cases_Bool, cases_eq, cases_lt, eqb-true, eqb-false}
use Rattle.std.proofs.lemmas.Bool.Decides.{nat_tests}
use Rattle.spv_module.specs.declared.opcode.TheConstants as opcode
use Rattle.spv_table.specs.Table.{Table}
use Rattle.spv_module.specs.Operand.{Plain, PlainInst}
use Rattle.spv_module.specs.Operand as operand
use Rattle.spv_layout.specs.declared.class.Class.TheVariants.{Phi, LoopMerge, SelectionMerge, Branch, BranchConditional}
use Rattle.spv_layout.specs.declared.class.Class.TheVariants.{Switch}
use Rattle.spv_layout.specs.declared.class.Class.TheVariants as class
use Rattle.spv_layout.specs.declared.form.Named.TheVariants as kind_of
use Rattle.spv_layout.specs.declared.form.Role.{Role}
use Rattle.spv_layout.specs.declared.form.Role.TheVariants.{Label}
use Rattle.spv_layout.specs.declared.form.Form.{Form}
use Rattle.spv_layout.specs.declared.form.Form.TheVariants as form
use Rattle.spv_layout.specs.Row.{PlainRow, closed, repeated, others}
use Rattle.spv_layout.specs.inner.Row.{row, v, l, kind, T, R, W, N}
use Rattle.spv_layout.specs.Rows.{rows, row_of}
use Rattle.spv_layout.specs.Shape.{FitsShape, IsUse, IsRole, role_of, id_of}
use Rattle.spv_layout.specs.inner.Test.{form_in, form_at}
use Rattle.spv_layout.proofs.Shapes.{use_same}
use Rattle.spv_layout.proofs.Uses.{role_by}
use Rattle.spv_flow.specs.branches.inner.Labels.{is_labelled, is_label_at, AreSameCases}
use Rattle.spv_flow.specs.branches.Target.{is_branch}
use Rattle.spv_flow.proofs.lemmas.branches.Labelled.{label_some}

lt_true : (a b : ℕ) → a < b → nat_lt a b ≡ true
lt_true a b h = grind (arith, nat_tests)

lt_false : (a b : ℕ) → b ≤ a → nat_lt a b ≡ false
lt_false a b h = grind (arith, nat_tests)

-- the form of an operand among the fixed ones, and of one after these
fixed_form : (r : PlainRow) (o : Plain) (n : ℕ) → n < length r.fixed → form_at r o n ≡ slice_get r.fixed n
fixed_form r o n h = rw (lt_true n (length r.fixed) h) refl

later_form : (r : PlainRow) (o : Plain) (n : ℕ) → length r.fixed ≤ n
    → form_at r o n ≡ form_in r.ending o (n - length r.fixed)
later_form r o n h = rw (lt_false n (length r.fixed) h) refl

-- What is known of an operand of an instruction that fits.
record Stands (G : Table) (i : PlainInst) (r : PlainRow) (n : ℕ) (o : Plain) : Type 0 where
  pub fits : FitsShape G i
  pub known : row_of i.opcode ≡ Some r
  pub there : slice_get i.operands n ≡ Some o

label_by : (G : Table) (i : PlainInst) (r : PlainRow) (n : ℕ) (o : Plain) → Stands G i r n o → form_at r o n ≡ Some l
    → IsRole G i n (Some Label)
label_by G i r n o s f = role_by i n r i.operands o (Some l) (Some Label) s.known refl s.there (sym f) refl G s.fits

-- The operand is no label.
IsOther : Plain → Option Form → Type 0
IsOther o q = (f : Form) → q ≡ Some f → role_of f o ≡ Some Label → ⊥

other_role : (G : Table) (i : PlainInst) (n x : ℕ) (a : Option Role) → IsRole G i n a → (a ≡ Some Label → ⊥)
    → ¬ (IsUse G i n x Label)
other_role G i n x None t k u = t x Label u
other_role G i n x (Some r) (y, w) k u = k (ap Some (use_same G i n y x r Label w u).role)

other_form : (o : Plain) (q : Option Form) → IsOther o q → option_and_then (λ f. role_of f o) q ≡ Some Label → ⊥
unfolding IsOther
other_form o None k e = cc
other_form o (Some f) k e = k f refl e

other_by : (G : Table) (i : PlainInst) (r : PlainRow) (n : ℕ) (o : Plain) → Stands G i r n o → IsOther o (form_at r o n)
    → (x : ℕ) → ¬ (IsUse G i n x Label)
other_by G i r n o s k x =
    let t = role_by i n r i.operands o (form_at r o n)
    (option_and_then (λ f. role_of f o) (form_at r o n)) s.known refl s.there refl refl G s.fits in
    other_role G i n x (option_and_then (λ f. role_of f o) (form_at r o n)) t (other_form o (form_at r o n) k)

-- forms that are no label's
other_kind : (o : Plain) → role_of form.Other o ≡ Some Label → ⊥
other_kind (operand.Id x) h = cc
other_kind _ h = cc

is_other : (o : Plain) (q : Option Form) (g : Form) → (role_of g o ≡ Some Label → ⊥) → q ≡ Some g → IsOther o q
unfolding IsOther
is_other o q g k e f h r = let s : g ≡ f = cc in k (rw s r)

no_other : (o : Plain) (q : Option Form) → q ≡ None → IsOther o q
unfolding IsOther
no_other o q e f h r = cc

-- the one form of a list
one_form : (g : Form) (n : ℕ) (o : Plain) → (role_of g o ≡ Some Label → ⊥) → IsOther o (slice_get (g ∷ []) n)
unfolding IsOther
one_form g zero o k = λ f e r. let s : g ≡ f = cc in k (rw s r)
one_form g (suc n) o k = λ f e r. cc

-- every other one after the first two
odd_rest : (n : ℕ) → 2 ≤ n → (n - 2) % 2 ≡ n % 2
odd_rest n h = let e : n ≡ 2 + (n - 2) = omega arith in sym (ap (λ m. m % 2) e ∙ add-mod_left 2 (n - 2))

even : (n : ℕ) → nat_eq (n % 2) 1 ≡ false → n % 2 ≡ 0
even n h = let a = eqb-false (n % 2) 1 h in let b : n % 2 < 2 = mod-lt n (omega arith) in omega (arith, a, b)

-- The operand is a label just where the test holds.
Placed : Table → PlainInst → ℕ → Bool → Type 0
Placed G i n b = MatchBool b (IsRole G i n (Some Label)) ((x : ℕ) → ¬ (IsUse G i n x Label))

placed : (G : Table) (i : PlainInst) (r : PlainRow) (n : ℕ) (o : Plain) (b : Bool) → Stands G i r n o
    → (b ≡ true → form_at r o n ≡ Some l) → (b ≡ false → IsOther o (form_at r o n)) → Placed G i n b
unfolding Placed
placed G i r n o true s holds fails = label_by G i r n o s (holds refl)
placed G i r n o false s holds fails = other_by G i r n o s (fails refl)

placed_true : (G : Table) (i : PlainInst) (n : ℕ) (b : Bool) → b ≡ true → Placed G i n b → IsRole G i n (Some Label)
unfolding Placed
placed_true G i n true e p = p
placed_true G i n false e p = cc

placed_false : (G : Table) (i : PlainInst) (n x : ℕ) (b : Bool) → b ≡ false → Placed G i n b → ¬ (IsUse G i n x Label)
unfolding Placed
placed_false G i n x true e p = cc
placed_false G i n x false e p = p x

-- OpSwitch
abbrev switch_row : PlainRow
switch_row = row opcode.SWITCH opcode.SWITCH Switch (v ∷ l ∷ []) (repeated (N ∷ l ∷ []))

switch_known : row_of opcode.SWITCH ≡ Some switch_row
unfolding rows
switch_known = refl

switch_label : (n : ℕ) (o : Plain) → nat_eq (n % 2) 1 ≡ true → form_at switch_row o n ≡ Some l
switch_label n o h =
    let odd : n % 2 ≡ 1 = eqb-true (n % 2) 1 h in
    elim (cases_lt n 2) [
      | inl lt ↦ (let m : n % 2 ≡ n = mod-eq_of_lt lt in let e : n ≡ 1 = sym m ∙ odd in
          fixed_form switch_row o n lt ∙ ap (slice_get (v ∷ l ∷ [])) e)
      | inr ge ↦ later_form switch_row o n ge ∙ ap (slice_get (N ∷ l ∷ [])) (odd_rest n ge ∙ odd)
    ]

switch_other : (n : ℕ) (o : Plain) → nat_eq (n % 2) 1 ≡ false → IsOther o (form_at switch_row o n)
switch_other n o h =
    let e : n % 2 ≡ 0 = even n h in
    elim (cases_lt n 2) [
      | inl lt ↦ (let m : n % 2 ≡ n = mod-eq_of_lt lt in let z : n ≡ 0 = sym m ∙ e in
          is_other o (form_at switch_row o n) v (λ k. cc)
          (fixed_form switch_row o n lt ∙ ap (slice_get (v ∷ l ∷ [])) z))
      | inr ge ↦ is_other o (form_at switch_row o n) N (λ k. cc)
          (later_form switch_row o n ge ∙ ap (slice_get (N ∷ l ∷ [])) (odd_rest n ge ∙ e))
    ]

-- OpPhi
abbrev phi_row : PlainRow
phi_row = row opcode.PHI opcode.PHI Phi (T ∷ R ∷ []) (repeated (v ∷ l ∷ []))

phi_known : row_of opcode.PHI ≡ Some phi_row
unfolding rows
phi_known = refl

le_tells : (a b : ℕ) → nat_le a b ≡ true → a ≤ b
le_tells a b h = grind (arith, nat_tests)

le_denies : (a b : ℕ) → nat_le a b ≡ false → b < a
le_denies a b h = grind (arith, nat_tests)

and_first : (a b : Bool) → a && b ≡ true → a ≡ true
and_first true b h = refl
and_first false b h = cc

and_second : (a b : Bool) → a && b ≡ true → b ≡ true
and_second true b h = h
and_second false b h = cc

and_false : (a b : Bool) → a && b ≡ false → a ≡ true → b ≡ false
and_false true b h g = h
and_false false b h g = cc

phi_label : (n : ℕ) (o : Plain) → nat_le 2 n && nat_eq (n % 2) 1 ≡ true → form_at phi_row o n ≡ Some l
phi_label n o h =
    let ge = le_tells 2 n (and_first (nat_le 2 n) (nat_eq (n % 2) 1) h) in
    let odd : n % 2 ≡ 1 = eqb-true (n % 2) 1 (and_second (nat_le 2 n) (nat_eq (n % 2) 1) h) in
    later_form phi_row o n ge ∙ ap (slice_get (v ∷ l ∷ [])) (odd_rest n ge ∙ odd)

phi_fixed : (n : ℕ) (o : Plain) → n < 2 → IsOther o (form_at phi_row o n)
phi_fixed n o lt = elim (cases_eq n 0) [
  | inl z ↦ is_other o (form_at phi_row o n) T (λ k. cc) (fixed_form phi_row o n lt ∙ ap (slice_get (T ∷ R ∷ [])) z)
  | inr x ↦ (let e : n ≡ 1 = omega (arith, x, lt) in
      is_other o (form_at phi_row o n) R (λ k. cc) (fixed_form phi_row o n lt ∙ ap (slice_get (T ∷ R ∷ [])) e))
]

phi_other : (n : ℕ) (o : Plain) → nat_le 2 n && nat_eq (n % 2) 1 ≡ false → IsOther o (form_at phi_row o n)
phi_other n o h = elim (cases_Bool (nat_le 2 n)) [
  | inl t ↦ (
      let ge = le_tells 2 n t in
      let e : n % 2 ≡ 0 = even n (and_false (nat_le 2 n) (nat_eq (n % 2) 1) h t) in
      is_other o (form_at phi_row o n) v (λ k. cc)
      (later_form phi_row o n ge ∙ ap (slice_get (v ∷ l ∷ [])) (odd_rest n ge ∙ e)))
  | inr f ↦ phi_fixed n o (le_denies 2 n f)
]

-- OpBranchConditional
abbrev conditional_row : PlainRow
conditional_row = row opcode.BRANCH_CONDITIONAL opcode.BRANCH_CONDITIONAL BranchConditional (v ∷ l ∷ l ∷ [])
    (repeated (W ∷ []))

conditional_known : row_of opcode.BRANCH_CONDITIONAL ≡ Some conditional_row
unfolding rows
conditional_known = refl

conditional_label : (n : ℕ) (o : Plain) → nat_le 1 n && nat_le n 2 ≡ true → form_at conditional_row o n ≡ Some l
conditional_label n o h =
    let a = le_tells 1 n (and_first (nat_le 1 n) (nat_le n 2) h) in
    let b = le_tells n 2 (and_second (nat_le 1 n) (nat_le n 2) h) in
    let f = fixed_form conditional_row o n (omega (arith, b)) in
    elim (cases_eq n 1) [
      | inl e ↦ f ∙ ap (slice_get (v ∷ l ∷ l ∷ [])) e
      | inr x ↦ (let e : n ≡ 2 = omega (arith, a, b, x) in f ∙ ap (slice_get (v ∷ l ∷ l ∷ [])) e)
    ]

conditional_later : (n : ℕ) (o : Plain) → 3 ≤ n → IsOther o (form_at conditional_row o n)
conditional_later n o h = rw (later_form conditional_row o n h) (one_form W ((n - 3) % 1) o (λ k. cc))

conditional_other : (n : ℕ) (o : Plain) → nat_le 1 n && nat_le n 2 ≡ false → IsOther o (form_at conditional_row o n)
conditional_other n o h = elim (cases_Bool (nat_le 1 n)) [
  | inl t ↦ conditional_later n o (let b = le_denies n 2 (and_false (nat_le 1 n) (nat_le n 2) h t) in omega (arith, b))
  | inr f ↦ (
      let b = le_denies 1 n f in
      let z : n ≡ 0 = omega (arith, b) in
      is_other o (form_at conditional_row o n) v (λ k. cc)
      (fixed_form conditional_row o n (omega (arith, b)) ∙ ap (slice_get (v ∷ l ∷ l ∷ [])) z))
]

-- OpLoopMerge
abbrev loop_row : PlainRow
loop_row = row opcode.LOOP_MERGE opcode.LOOP_MERGE LoopMerge (l ∷ l ∷ kind kind_of.LoopControl ∷ []) others

loop_known : row_of opcode.LOOP_MERGE ≡ Some loop_row
unfolding rows
loop_known = refl

loop_label : (n : ℕ) (o : Plain) → nat_le n 1 ≡ true → form_at loop_row o n ≡ Some l
loop_label n o h =
    let b = le_tells n 1 h in
    let f = fixed_form loop_row o n (omega (arith, b)) in
    elim (cases_eq n 0) [
      | inl e ↦ f ∙ ap (slice_get (l ∷ l ∷ kind kind_of.LoopControl ∷ [])) e
      | inr x ↦ (let e : n ≡ 1 = omega (arith, b, x) in f ∙ ap (slice_get (l ∷ l ∷ kind kind_of.LoopControl ∷ [])) e)
    ]

loop_other : (n : ℕ) (o : Plain) → nat_le n 1 ≡ false → IsOther o (form_at loop_row o n)
loop_other n o h =
    let b = le_denies n 1 h in
    elim (cases_lt n 3) [
      | inl lt ↦ (let e : n ≡ 2 = omega (arith, b, lt) in
          is_other o (form_at loop_row o n) (kind kind_of.LoopControl) (λ k. cc)
          (fixed_form loop_row o n lt ∙ ap (slice_get (l ∷ l ∷ kind kind_of.LoopControl ∷ [])) e))
      | inr ge ↦ is_other o (form_at loop_row o n) form.Other (other_kind o) (later_form loop_row o n ge)
    ]

-- OpSelectionMerge
abbrev selection_row : PlainRow
selection_row = row opcode.SELECTION_MERGE opcode.SELECTION_MERGE SelectionMerge
    (l ∷ kind kind_of.SelectionControl ∷ []) closed

selection_known : row_of opcode.SELECTION_MERGE ≡ Some selection_row
unfolding rows
selection_known = refl

selection_label : (n : ℕ) (o : Plain) → nat_eq n 0 ≡ true → form_at selection_row o n ≡ Some l
selection_label n o h = let e : n ≡ 0 = eqb-true n 0 h in
    fixed_form selection_row o n (omega (arith, e)) ∙ ap (slice_get (l ∷ kind kind_of.SelectionControl ∷ [])) e

selection_other : (n : ℕ) (o : Plain) → nat_eq n 0 ≡ false → IsOther o (form_at selection_row o n)
selection_other n o h =
    let x = eqb-false n 0 h in
    elim (cases_lt n 2) [
      | inl lt ↦ (let e : n ≡ 1 = omega (arith, x, lt) in
          is_other o (form_at selection_row o n) (kind kind_of.SelectionControl) (λ k. cc)
          (fixed_form selection_row o n lt ∙ ap (slice_get (l ∷ kind kind_of.SelectionControl ∷ [])) e))
      | inr ge ↦ no_other o (form_at selection_row o n) (later_form selection_row o n ge)
    ]

-- OpBranch
abbrev branch_row : PlainRow
branch_row = row opcode.BRANCH opcode.BRANCH Branch (l ∷ []) closed

branch_known : row_of opcode.BRANCH ≡ Some branch_row
unfolding rows
branch_known = refl

branch_label : (n : ℕ) (o : Plain) → nat_eq n 0 ≡ true → form_at branch_row o n ≡ Some l
branch_label n o h = let e : n ≡ 0 = eqb-true n 0 h in
    fixed_form branch_row o n (omega (arith, e)) ∙ ap (slice_get (l ∷ [])) e

branch_other : (n : ℕ) (o : Plain) → nat_eq n 0 ≡ false → IsOther o (form_at branch_row o n)
branch_other n o h = let x = eqb-false n 0 h in
    no_other o (form_at branch_row o n) (later_form branch_row o n (omega (arith, x)))

-- an instruction of a known opcode
standing : (G : Table) (i : PlainInst) (r : PlainRow) (n k : ℕ) (o : Plain) → row_of k ≡ Some r → i.opcode ≡ k
    → FitsShape G i → slice_get i.operands n ≡ Some o → Stands G i r n o
standing G i r n k o known e fits there = record { fits = fits; known = ap row_of e ∙ known; there = there }

-- the six opcodes
data Labelled : ℕ → Type 0 where
  phi : Labelled opcode.PHI
  loop_merge : Labelled opcode.LOOP_MERGE
  selection_merge : Labelled opcode.SELECTION_MERGE
  branch : Labelled opcode.BRANCH
  conditional : Labelled opcode.BRANCH_CONDITIONAL
  switch : Labelled opcode.SWITCH

labelled_by : (x k : ℕ) → k ≡ x → Labelled k → Labelled x
labelled_by x k e h = subst (λ (m : ℕ). Labelled m) e h

labelled_bounds : (x : ℕ) → is_labelled x ≡ true → (opcode.PHI ≤ x) × (x ≤ opcode.SWITCH) × (x ≢ opcode.LABEL)
labelled_bounds x h = (grind (arith, nat_tests), grind (arith, nat_tests), λ e. let g = rw e at h in cc)

labelled_cases : (x : ℕ) → is_labelled x ≡ true → Labelled x
labelled_cases x h =
    let b = labelled_bounds x h in
    let lo = b.0 in
    let hi = b.1 in
    let not_248 = b.2 in
    elim (cases_eq opcode.PHI x) [
      | inl e ↦ labelled_by x opcode.PHI e phi
      | inr a ↦ elim (cases_eq opcode.LOOP_MERGE x) [
        | inl e ↦ labelled_by x opcode.LOOP_MERGE e loop_merge
        | inr c ↦ elim (cases_eq opcode.SELECTION_MERGE x) [
          | inl e ↦ labelled_by x opcode.SELECTION_MERGE e selection_merge
          | inr d ↦ elim (cases_eq opcode.BRANCH x) [
            | inl e ↦ labelled_by x opcode.BRANCH e branch
            | inr f ↦ elim (cases_eq opcode.BRANCH_CONDITIONAL x) [
              | inl e ↦ labelled_by x opcode.BRANCH_CONDITIONAL e conditional
              | inr g ↦ labelled_by x opcode.SWITCH (omega (arith, lo, hi, not_248, a, c, d, f, g)) switch
            ]
          ]
        ]
      ]
    ]

by_opcode : (G : Table) (i : PlainInst) (n x : ℕ) (o : Plain) → Labelled x → i.opcode ≡ x → FitsShape G i
    → slice_get i.operands n ≡ Some o → Placed G i n (is_label_at x n)
by_opcode G i n _ o phi e fits there =
    placed G i phi_row n o (is_label_at opcode.PHI n) (standing G i phi_row n opcode.PHI o phi_known e fits there)
    (phi_label n o) (phi_other n o)
by_opcode G i n _ o loop_merge e fits there =
    placed G i loop_row n o (is_label_at opcode.LOOP_MERGE n)
    (standing G i loop_row n opcode.LOOP_MERGE o loop_known e fits there) (loop_label n o) (loop_other n o)
by_opcode G i n _ o selection_merge e fits there =
    placed G i selection_row n o (is_label_at opcode.SELECTION_MERGE n)
    (standing G i selection_row n opcode.SELECTION_MERGE o selection_known e fits there) (selection_label n o)
    (selection_other n o)
by_opcode G i n _ o branch e fits there =
    placed G i branch_row n o (is_label_at opcode.BRANCH n)
    (standing G i branch_row n opcode.BRANCH o branch_known e fits there) (branch_label n o) (branch_other n o)
by_opcode G i n _ o conditional e fits there =
    placed G i conditional_row n o (is_label_at opcode.BRANCH_CONDITIONAL n)
    (standing G i conditional_row n opcode.BRANCH_CONDITIONAL o conditional_known e fits there) (conditional_label n o)
    (conditional_other n o)
by_opcode G i n _ o switch e fits there =
    placed G i switch_row n o (is_label_at opcode.SWITCH n)
    (standing G i switch_row n opcode.SWITCH o switch_known e fits there) (switch_label n o) (switch_other n o)

-- the id of an operand at a label's place
pub label_told : (G : Table) (i : PlainInst) (n : ℕ) (p : Option ℕ) → is_labelled i.opcode ≡ true
    → is_label_at i.opcode n ≡ true → p ≡ option_and_then id_of (slice_get i.operands n) → FitsShape G i
    → MatchOption p ((x : ℕ) → ¬ (IsUse G i n x Label)) (λ x. IsUse G i n x Label)
label_told G i n p h t e fits = at_operand (slice_get i.operands n) refl
  where
    at_operand : (q : Option Plain) → slice_get i.operands n ≡ q
        → MatchOption p ((x : ℕ) → ¬ (IsUse G i n x Label)) (λ x. IsUse G i n x Label)
    at_operand None g = let f : p ≡ None = e ∙ ap (option_and_then id_of) g in
        rw f (λ x u. let a : None ≡ Some u.operand = sym g ∙ u.operand_at in cc)
    at_operand (Some o) g =
        label_some G i n p e (placed_true G i n (is_label_at i.opcode n) t
        (by_opcode G i n i.opcode o (labelled_cases i.opcode h) refl fits g))

pub no_label_told : (G : Table) (i : PlainInst) (n x : ℕ) → is_labelled i.opcode ≡ true → is_label_at i.opcode n ≡ false
    → FitsShape G i → ¬ (IsUse G i n x Label)
no_label_told G i n x h t fits u =
    placed_false G i n x (is_label_at i.opcode n) t
    (by_opcode G i n i.opcode u.operand (labelled_cases i.opcode h) refl fits u.operand_at) u

-- Of an OpSwitch the operands between two labels are no labels.

pub case_after : (n : ℕ) → is_label_at opcode.SWITCH n ≡ true → is_label_at opcode.SWITCH (n + 2) ≡ true
case_after n h =
    let r = odd_rest (n + 2) (omega arith) in
    let e : n + 2 - 2 ≡ n = omega arith in
    let s : n % 2 ≡ (n + 2) % 2 = ap (λ m. m % 2) (sym e) ∙ r in
    rw (← s) h

pub no_case_after : (n : ℕ) → is_label_at opcode.SWITCH n ≡ true → ¬ (is_label_at opcode.SWITCH (n + 1) ≡ true)
no_case_after n h g =
    let a = eqb-true (n % 2) 1 h in
    let b = eqb-true ((n + 1) % 2) 1 g in
    let d = div-add-mod n 2 in
    let e = div-add-mod (n + 1) 2 in
    absurd (omega (arith, a, b, d, e))

pub same_start : (os : List Plain) (n y : ℕ) → is_label_at opcode.SWITCH n ≡ true → AreSameCases os n (n + 2) y
same_start os n y h k low high t =
    let e : k ≡ n + 1 = omega (arith, low, high) in
    absurd (no_case_after n h (subst (λ (m : ℕ). is_label_at opcode.SWITCH m ≡ true) e t))

pub same_more : (os : List Plain) (n next y : ℕ) → is_label_at opcode.SWITCH next ≡ true
    → option_and_then id_of (slice_get os next) ≡ Some y → AreSameCases os n next y → AreSameCases os n (next + 2) y
same_more os n next y h e same k low high t = elim (cases_lt k next) [
  | inl less ↦ same k low less t
  | inr more ↦ elim (cases_lt k (next + 1)) [
    | inl here ↦ (let s : k ≡ next = omega (arith, more, here) in rw s e)
    | inr past ↦ same_start os next y h k (omega (arith, past)) high t
  ]
]

pub same_case : (G : Table) (i : PlainInst) (n to y k x : ℕ) → i.opcode ≡ opcode.SWITCH → IsUse G i n y Label
    → AreSameCases i.operands n to y
    → FitsShape G i → n < k → k < to → IsUse G i k x Label → IsUse G i n x Label
same_case G i n to y k x s w same fits low high u = by_test (is_label_at opcode.SWITCH k) refl
  where
    by_test : (b : Bool) → is_label_at opcode.SWITCH k ≡ b → IsUse G i n x Label
    by_test true t =
        let a = same k low high t in
        let o : option_and_then id_of (slice_get i.operands k) ≡ Some x = ap (option_and_then id_of) u.operand_at
        ∙ u.id in
        let d : y ≡ x = cc in
        subst (λ (z : ℕ). IsUse G i n z Label) d w
    by_test false t = absurd (no_label_told G i k x (rw s refl) (rw s t) fits u)

pub branch_labelled : (x : ℕ) → is_branch x ≡ true → is_labelled x ≡ true
branch_labelled x h = grind (arith, nat_tests)

-- A branch uses its labels, and beside them its first operand at most: that of OpBranch is a label.

no_use_by : (G : Table) (i : PlainInst) (r : PlainRow) (n : ℕ) (o : Plain) → Stands G i r n o
    → option_and_then (λ f. role_of f o) (form_at r o n) ≡ None → (x : ℕ) (q : Role) → ¬ (IsUse G i n x q)
no_use_by G i r n o s e = role_by i n r i.operands o (form_at r o n) None s.known refl s.there refl (sym e) G s.fits

jump_use : (G : Table) (i : PlainInst) (n x : ℕ) (q : Role) → i.opcode ≡ opcode.BRANCH → FitsShape G i
    → nat_eq n 0 ≡ false → ¬ (IsUse G i n x q)
jump_use G i n x q e fits h u =
    let o = u.operand in
    let k = eqb-false n 0 h in
    no_use_by G i branch_row n o (standing G i branch_row n opcode.BRANCH o branch_known e fits u.operand_at)
    (ap (option_and_then (λ f. role_of f o)) (later_form branch_row o n (omega (arith, k)))) x q u

word_role : (k : ℕ) (o : Plain) → option_and_then (λ f. role_of f o) (slice_get (W ∷ []) k) ≡ None
word_role zero o = refl
word_role (suc k) o = refl

conditional_use : (G : Table) (i : PlainInst) (n x : ℕ) (q : Role) → i.opcode ≡ opcode.BRANCH_CONDITIONAL
    → FitsShape G i → nat_le 1 n && nat_le n 2 ≡ false → IsUse G i n x q → n ≡ 0
conditional_use G i n x q e fits h u =
    let o = u.operand in
    elim (cases_Bool (nat_le 1 n)) [
      | inl t ↦ (
          let b = le_denies n 2 (and_false (nat_le 1 n) (nat_le n 2) h t) in
          let none = ap (option_and_then (λ f. role_of f o)) (later_form conditional_row o n (omega (arith, b)))
          ∙ word_role ((n - 3) % 1) o in
          absurd (no_use_by G i conditional_row n o
          (standing G i conditional_row n opcode.BRANCH_CONDITIONAL o conditional_known e fits u.operand_at) none x
          q u))
      | inr f ↦ (let b = le_denies 1 n f in omega (arith, b))
    ]

switch_use : (G : Table) (i : PlainInst) (n x : ℕ) (q : Role) → i.opcode ≡ opcode.SWITCH → FitsShape G i
    → nat_eq (n % 2) 1 ≡ false → IsUse G i n x q → n ≡ 0
switch_use G i n x q e fits h u =
    let o = u.operand in
    let z : n % 2 ≡ 0 = even n h in
    elim (cases_lt n 2) [
      | inl lt ↦ (let m : n % 2 ≡ n = mod-eq_of_lt lt in sym m ∙ z)
      | inr ge ↦ (
          let none = ap (option_and_then (λ f. role_of f o))
          (later_form switch_row o n ge ∙ ap (slice_get (N ∷ l ∷ [])) (odd_rest n ge ∙ z)) in
          absurd (no_use_by G i switch_row n o
          (standing G i switch_row n opcode.SWITCH o switch_known e fits u.operand_at) none x q u))
    ]

branch_bounds : (x : ℕ) → is_branch x ≡ true → (opcode.BRANCH ≤ x) × (x ≤ opcode.SWITCH)
branch_bounds x h = (grind (arith, nat_tests), grind (arith, nat_tests))

at_place : (x k n : ℕ) → x ≡ k → is_label_at x n ≡ false → is_label_at k n ≡ false
at_place x k n e h = sym (ap (λ (o : ℕ). is_label_at o n) e) ∙ h

pub first_use : (G : Table) (i : PlainInst) (n x : ℕ) (q : Role) → is_branch i.opcode ≡ true
    → is_label_at i.opcode n ≡ false → FitsShape G i → IsUse G i n x q → (n ≡ 0) × (i.opcode ≢ opcode.BRANCH)
first_use G i n x q h t fits u =
    let b = branch_bounds i.opcode h in
    let lo = b.0 in
    let hi = b.1 in
    elim (cases_eq i.opcode opcode.BRANCH) [
      | inl e ↦ absurd (jump_use G i n x q e fits (at_place i.opcode opcode.BRANCH n e t) u)
      | inr a ↦ elim (cases_eq i.opcode opcode.BRANCH_CONDITIONAL) [
        | inl e ↦ (conditional_use G i n x q e fits (at_place i.opcode opcode.BRANCH_CONDITIONAL n e t) u, a)
        | inr c ↦ (let e : i.opcode ≡ opcode.SWITCH = omega (arith, lo, hi, a, c) in
            (switch_use G i n x q e fits (at_place i.opcode opcode.SWITCH n e t) u, a))
      ]
    ]

-- An OpLabel uses nothing.
abbrev pub label_row : PlainRow
label_row = row opcode.LABEL opcode.LABEL class.Label (R ∷ []) closed

pub label_known : row_of opcode.LABEL ≡ Some label_row
unfolding rows
label_known = refl

label_forms : (n : ℕ) (o : Plain) → option_and_then (λ f. role_of f o) (form_at label_row o n) ≡ None
label_forms n o = elim (cases_lt n 1) [
  | inl lt ↦ (let z : n ≡ 0 = omega (arith, lt) in
      ap (option_and_then (λ f. role_of f o)) (fixed_form label_row o n lt ∙ ap (slice_get (R ∷ [])) z))
  | inr ge ↦ ap (option_and_then (λ f. role_of f o)) (later_form label_row o n ge)
]

pub label_use : (G : Table) (i : PlainInst) (n x : ℕ) (q : Role) → i.opcode ≡ opcode.LABEL → FitsShape G i
    → ¬ (IsUse G i n x q)
label_use G i n x q e fits u =
    let o = u.operand in
    no_use_by G i label_row n o (standing G i label_row n opcode.LABEL o label_known e fits u.operand_at)
    (label_forms n o) x q u
