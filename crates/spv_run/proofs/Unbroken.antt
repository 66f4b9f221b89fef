-- What a run rests on holds where no rule is broken.
use Rattle.std.proofs.Common.{◌≡◌, ◌∙◌, ◌⊎◌, inl, inr, ℕ, zero, suc, List, [], ◌∷◌, Bool, true, false, ◌&&◌, Option}
use Rattle.std.proofs.Common.{Some, None, refl, sym, ap, subst, arith, Contains}
use Rattle.std.specs.Prelude.{slice_get}
use Rattle.std.proofs.lemmas.Bool.{cases_Bool, cases_order, eq-eqb, eqb-true}
use Rattle.std.proofs.lemmas.Option.{none-some, same_Some}
use Rattle.spv_table.specs.Table.{Table}
use Rattle.spv_module.specs.Operand.{PlainInst, result_in}
use Rattle.spv_module.specs.Width.{has_result}
use Rattle.spv_module.specs.declared.fault.Rule.TheVariants as rule
use Rattle.spv_layout.specs.First.{IsUnbroken}
use Rattle.spv_layout.specs.Stage as stages
use Rattle.spv_ids.specs.Broken as ids
use Rattle.spv_flow.specs.branches.Broken as branches
use Rattle.spv_flow.specs.declared.branches.fork.Fork.TheVariants.{Free}
use Rattle.spv_flow.specs.branches.Target as target
use Rattle.spv_flow.specs.branches.Target.{IsTarget}
use Rattle.spv_flow.specs.calls.Broken as calls
use Rattle.spv_run.specs.Act.{Act, Label, act_of}
use Rattle.spv_run.specs.At.{act_at}
use Rattle.spv_run.specs.inner.At.{targets}
use Rattle.spv_run.proofs.Place.{IsLabel}
use Rattle.spv_run.proofs.Fit.{AllFit, HasOneDefinition}
use Rattle.spv_run.proofs.Checked.{HasNoCycle}
use Rattle.spv_run.proofs.Flow.{HasLabels}
use Rattle.spv_run.proofs.Basics.{act_back, act_from, result_here}
use Rattle.spv_run.proofs.Shapes.{View, view}
use Rattle.spv_run.proofs.Classes.{act_label}
use Rattle.spv_run.proofs.Laid.{is_label_act}
use Rattle.spv_run.proofs.Standing.{defined_at, label_from}
use Rattle.spv_run.proofs.Uses.{target_use}

-- G1
pub no_cycle : (is : List PlainInst) → IsUnbroken (calls.Broken is) stages.of_calls → HasNoCycle is
no_cycle is u = λ e f g entry chain call back. u rule.G1 call.place refl
    (calls.Broken.on_cycle call.place e f g call.call entry chain back)

-- D2
pub one_definition : (G : Table) (bound : ℕ) (is : List PlainInst) → IsUnbroken (ids.Broken G bound is) stages.of_ids
    → HasOneDefinition is
one_definition G bound is u = λ m n x h g. elim (cases_order m n) [
  | inl e ↦ e
  | inr o ↦ elim o [
    | inl l ↦ absurd (u rule.D2 n refl (ids.Broken.defined_again n m x (defined_at is n x g) l (defined_at is m x h)))
    | inr l ↦ absurd (u rule.D2 m refl (ids.Broken.defined_again m n x (defined_at is m x h) l (defined_at is n x g)))
  ]
]

-- Whether an id is the result of a label.

label_test : PlainInst → ℕ → Bool
label_test i x = act_label (act_of i) && has_result (result_in i.operands) x

and_both : (a b : Bool) → (a && b) ≡ true → (a ≡ true) × (b ≡ true)
and_both true b h = (refl, h)
and_both false b h = cc

has_it : (o : Option ℕ) (x : ℕ) → has_result o x ≡ true → o ≡ Some x
has_it None x h = cc
has_it (Some r) x h = ap Some (eqb-true r x h)

it_has : (o : Option ℕ) (x : ℕ) → o ≡ Some x → has_result o x ≡ true
it_has None x h = absurd (none-some x h)
it_has (Some r) x h = eq-eqb r x (same_Some r x h)

found : (js : List PlainInst) (x : ℕ)
    → ((m : ℕ) × (i : PlainInst) × (slice_get js m ≡ Some i) × (label_test i x ≡ true))
    ⊎ ((m : ℕ) (i : PlainInst) → slice_get js m ≡ Some i → label_test i x ≡ false)
found [] x = inr (λ m i h. absurd (none-some i h))
found (j ∷ js) x = elim (cases_Bool (label_test j x)) [
  | inl e ↦ inl (0, j, refl, e)
  | inr e ↦ elim (found js x) [
    | inl r ↦ inl (suc r.0, r.1, r.2, r.3)
    | inr never ↦ inr (λ m i h. here_or m i h e never)
  ]
] where
  here_or : (m : ℕ) (i : PlainInst) → slice_get (j ∷ js) m ≡ Some i → label_test j x ≡ false
      → ((m : ℕ) (i : PlainInst) → slice_get js m ≡ Some i → label_test i x ≡ false) → label_test i x ≡ false
  here_or zero i h e never = ap (λ k. label_test k x) (sym (same_Some j i h)) ∙ e
  here_or (suc m) i h e never = never m i h

pub find_label : (is : List PlainInst) (x : ℕ) → ((m : ℕ) × IsLabel is m x) ⊎ ((m : ℕ) → ¬ (IsLabel is m x))
unfolding label_test
find_label is x = elim (found is x) [
  | inl r ↦ (
      let two = and_both (act_label (act_of r.1)) (has_result (result_in r.1.operands) x) r.3 in
      inl (
        r.0,
        record {
          act = act_from is r.0 r.1 Label r.2 (is_label_act (act_of r.1) two.0);
          result = result_here is r.0 r.1 r.2 ∙ has_it (result_in r.1.operands) x two.1;
        },
      ))
  | inr never ↦ inr (λ m lab.
      let i = act_back is m Label lab.act in
      let a : act_label (act_of i.0) ≡ true = ap act_label i.2 in
      let b : has_result (result_in i.0.operands) x ≡ true = it_has (result_in i.0.operands) x
      (sym (result_here is m i.0 i.1) ∙ lab.result) in
      let w : (act_label (act_of i.0) && has_result (result_in i.0.operands) x) ≡ false = never m i.0 i.1 in
      let v : (true && true) ≡ false = rw (a, b) at w in
      cc)
]

-- What has targets is a branch.

pub record IsBranching (i : PlainInst) : Type 0 where
  pub test : target.is_branch i.opcode ≡ true

branching_view : (G : Table) (i : PlainInst) (a : Act) (x : ℕ) → View G i a → Contains (targets a) x → IsBranching i
branching_view G i _ x (View.branch y e same) c = record { test = ap target.is_branch e }
branching_view G i _ x (View.condition s y z os gs e same en each) c = record { test = ap target.is_branch e }
branching_view G i _ x (View.switch s y os gs e same en each) c = record { test = ap target.is_branch e }
branching_view G i _ x (View.function a b k' m s e os) (k, l, e') = absurd (omega (arith, l))
branching_view G i _ x (View.parameter t b e os) (k, l, e') = absurd (omega (arith, l))
branching_view G i _ x (View.function_end e os) (k, l, e') = absurd (omega (arith, l))
branching_view G i _ x (View.call a b d os gs e same en each) (k, l, e') = absurd (omega (arith, l))
branching_view G i _ x (View.phi a b os gs e same en each) (k, l, e') = absurd (omega (arith, l))
branching_view G i _ x (View.label b e os) (k, l, e') = absurd (omega (arith, l))
branching_view G i _ x (View.return e os) (k, l, e') = absurd (omega (arith, l))
branching_view G i _ x (View.value y e os) (k, l, e') = absurd (omega (arith, l))
branching_view G i _ x (View.unreachable e os) (k, l, e') = absurd (omega (arith, l))
branching_view G i _ x (View.other e) (k, l, e') = absurd (omega (arith, l))

pub target_of : (G : Table) (is : List PlainInst) → AllFit G is → (n x : ℕ) (a : Act) → act_at is n ≡ Some a
    → Contains (targets a) x → IsTarget G is n x
target_of G is fits n x a h c =
    let i = act_back is n a h in
    let c' : Contains (targets (act_of i.0)) x = subst (λ b. Contains (targets b) x) (sym i.2) c in
    let used = target_use G is n i.0 x i.1 (fits n i.0 i.1) c' in
    let b = branching_view G i.0 (act_of i.0) x (view G i.0 (fits n i.0 i.1)) c' in
    let test = b.test in
    record { branch = rw (i.1, test) refl; operand = used.0; used = used.1 }

-- F1
pub has_labels : (G : Table) (is : List PlainInst) → AllFit G is
    → IsUnbroken (branches.Broken Free G is) stages.of_branches
    → HasLabels is
has_labels G is fits u = λ n x a h c. elim (find_label is x) [
  | inl found ↦ found
  | inr none ↦ (
      let t = target_of G is fits n x a h c in
      absurd (u rule.F1 n refl (branches.Broken.no_label n t.operand x (inl t.branch) t.used
      (λ m lab. none m (label_from is m x lab)))))
]
