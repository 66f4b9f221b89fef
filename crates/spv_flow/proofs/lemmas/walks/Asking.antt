-- The blocks whose labels an instruction has, and what is asked for it, operand by operand.
use Rattle.std.proofs.Common.{◌≡◌, ◌≤◌, ◌<◌, ◌+◌, ◌∙◌, inl, inr, ℕ, List, Option, Some, None, length, refl, sym, ap}
use Rattle.std.proofs.Common.{subst, arith}
use Rattle.std.specs.Prelude.{slice_get, slice_index, option_and_then, MatchOption}
use Rattle.std.proofs.lemmas.Bool.{cases_order}
use Rattle.spv_table.specs.Table.{Table}
use Rattle.spv_module.specs.Operand.{PlainInst}
use Rattle.spv_layout.specs.declared.form.Role.{Role}
use Rattle.spv_layout.specs.declared.form.Role.TheVariants.{Value, Label}
use Rattle.spv_layout.specs.Shape.{IsUse}
use Rattle.spv_layout.specs.Place.{IsOfFunction}
use Rattle.spv_ids.specs.Definition.{IsDefinedAt}
use Rattle.spv_ids.specs.inner.Uses.{seen_id}
use Rattle.spv_graphs.specs.declared.queries.Query.{Query}
use Rattle.spv_flow.specs.branches.Target.{IsLabelOf}
use Rattle.spv_flow.specs.branches.Ready.{IsLocalValue}
use Rattle.spv_flow.proofs.lemmas.branches.Labelled.{use_in, use_at, one_id}
use Rattle.spv_flow.specs.declared.walks.code.Code.{Code}
use Rattle.spv_flow.specs.declared.walks.edges.Blocks.{Blocks}
use Rattle.spv_flow.specs.walks.inner.Code.{insts_of, IsCode}
use Rattle.spv_flow.specs.walks.inner.Divided.{IsIn, IsDivided}
use Rattle.spv_flow.specs.walks.inner.Leading.{AreBlocks, IsLabelAt}
use Rattle.spv_flow.specs.walks.inner.Due.{IsFoundAt, IsPairedAt, IsSettled, IsUseQuery, IsPairQuery}
use Rattle.spv_flow.proofs.lemmas.walks.Coded.{one_place}
use Rattle.spv_flow.proofs.lemmas.walks.Used.{one_used}
use Rattle.spv_flow.proofs.lemmas.walks.Walking.{first_in}

-- labels

pub no_label : (G : Table) (c : Code) (starts : List ℕ) (at n : ℕ) (i : PlainInst) → IsCode G c
    → slice_get (insts_of c) at ≡ Some i → ((x : ℕ) → ¬ (IsUse G i n x Label)) → (k : ℕ)
    → ¬ (IsLabelAt G (insts_of c) starts at n k)
no_label G c starts at n i is there none k l = none l.id (use_in G (insts_of c) at n l.id Label i there l.used)

pub no_place : (G : Table) (c : Code) (starts : List ℕ) (at n x : ℕ) (i : PlainInst) → IsCode G c
    → slice_get (insts_of c) at ≡ Some i → IsUse G i n x Label → ((m : ℕ) → ¬ (IsLabelOf (insts_of c) x m)) → (k : ℕ)
    → ¬ (IsLabelAt G (insts_of c) starts at n k)
no_place G c starts at n x i is there used none k l =
    let e : l.id ≡ x = one_id G (insts_of c) at n l.id x Label Label l.used
    (use_at G (insts_of c) at n x Label i there used) in
    none (slice_index starts k) (subst (λ (y : ℕ). IsLabelOf (insts_of c) y (slice_index starts k)) e l.label)

pub target_by : (G : Table) (c : Code) (b : Blocks) (at n x place : ℕ) (i : PlainInst) → IsCode G c
    → AreBlocks (insts_of c) b → slice_get (insts_of c) at ≡ Some i → IsUse G i n x Label
    → IsLabelOf (insts_of c) x place
    → (o : Option ℕ) → MatchOption o (¬ (IsOfFunction (insts_of c) place b.function))
    (λ k. (k + 1 < length b.starts.now) × (slice_index b.starts.now k ≡ place))
    → MatchOption o ((k : ℕ) → ¬ (IsLabelAt G (insts_of c) b.starts.now at n k))
    (λ k. IsLabelAt G (insts_of c) b.starts.now at n k)
target_by G c b at n x place i is are there used label None h = λ k l.
    let e : l.id ≡ x = one_id G (insts_of c) at n l.id x Label Label l.used
    (use_at G (insts_of c) at n x Label i there used) in
    let m : IsLabelOf (insts_of c) x (slice_index b.starts.now k) = subst
    (λ (y : ℕ). IsLabelOf (insts_of c) y (slice_index b.starts.now k)) e l.label in
    let s : slice_index b.starts.now k ≡ place = one_place G c x
    (slice_index b.starts.now k) place is m.defined label.defined in
    let d = are.laid.divided in
    h (subst (λ (j : ℕ). IsOfFunction (insts_of c) j b.function) s
    (d.of k (slice_index b.starts.now k) (first_in (insts_of c) b.function b.starts.now d k l.inside)))
target_by G c b at n x place i is are there used label (Some k) h = record {
  id = x;
  used = use_at G (insts_of c) at n x Label i there used;
  inside = h.0;
  label = subst (λ (j : ℕ). IsLabelOf (insts_of c) x j) (sym h.1) label;
}

-- uses

-- where nothing is found, where it stands before in the block, and where it is not local, nothing is asked
pub no_use : (G : Table) (c : Code) (starts : List ℕ) (b at n : ℕ) → IsFoundAt G (insts_of c) at n None → (a : Query)
    → ¬ (IsUseQuery G (insts_of c) starts b at n a)
no_use G c starts b at n none a u = none u.id a.value u.role u.used u.defined

pub no_need : (G : Table) (c : Code) (starts : List ℕ) (b at n d : ℕ) → IsCode G c
    → IsFoundAt G (insts_of c) at n (Some d) → slice_index starts b ≤ d → d < at → (a : Query)
    → ¬ (IsUseQuery G (insts_of c) starts b at n a)
no_need G c starts b at n d is found from to a u =
    let s : a.value ≡ d = one_place G c u.id a.value d is u.defined (found u.id u.role u.used) in
    u.apart (omega (arith, from, s), omega (arith, to, s))

pub no_value : (G : Table) (c : Code) (starts : List ℕ) (b at n d : ℕ) → IsFoundAt G (insts_of c) at n (Some d)
    → ((x : ℕ) → IsDefinedAt (insts_of c) x d → ¬ (IsLocalValue (insts_of c) x)) → (a : Query)
    → ¬ (IsUseQuery G (insts_of c) starts b at n a)
no_value G c starts b at n d found none a u = none u.id (found u.id u.role u.used) u.local

pub no_role : (G : Table) (c : Code) (starts : List ℕ) (b at n : ℕ) (i : PlainInst) → slice_get (insts_of c) at ≡ Some i
    → ((x : ℕ) (r : Role) → ¬ (IsUse G i n x r)) → (a : Query) → ¬ (IsUseQuery G (insts_of c) starts b at n a)
no_role G c starts b at n i there none a u = none u.id u.role (use_in G (insts_of c) at n u.id u.role i there u.used)

pub use_asked : (G : Table) (c : Code) (starts : List ℕ) (b at n x d : ℕ) (i : PlainInst)
    → slice_get (insts_of c) at ≡ Some i → IsFoundAt G (insts_of c) at n (Some d) → (r : Role) × IsUse G i n x r
    → ((y : ℕ) → IsDefinedAt (insts_of c) y d → IsLocalValue (insts_of c) y) → ¬ ((slice_index starts b ≤ d) × (d < at))
    → IsUseQuery G (insts_of c) starts b at n (record { block = b; value = d; step = at })
use_asked G c starts b at n x d i there found used local apart =
    let u = use_at G (insts_of c) at n x used.0 i there used.1 in
    let defined = found x used.0 u in
    record {
      block = refl;
      step = refl;
      id = x;
      role = used.0;
      used = u;
      local = local x defined;
      defined = defined;
      apart = apart;
    }

-- nor is it where the id is settled
pub no_asked : (G : Table) (c : Code) (starts : List ℕ) (b at n x : ℕ) (i : PlainInst) → IsCode G c
    → slice_get (insts_of c) at ≡ Some i → Some x ≡ option_and_then seen_id (slice_get i.operands n)
    → IsSettled (insts_of c) x (slice_index starts b) at → (a : Query) → ¬ (IsUseQuery G (insts_of c) starts b at n a)
no_asked G c starts b at n x i is there e settled a u =
    let s : u.id ≡ x = one_used G (insts_of c) at n x u.id u.role i there e u.used in
    elim settled [
      | inl out ↦ out (subst (λ (y : ℕ). IsLocalValue (insts_of c) y) s u.local)
      | inr here ↦ (
          let v : a.value ≡ here.0 = one_place G c x a.value here.0 is
          (subst (λ (y : ℕ). IsDefinedAt (insts_of c) y a.value) s u.defined) here.3 in
          let from = here.1 in
          let to = here.2 in
          u.apart (omega (arith, from, v), omega (arith, to, v)))
    ]

same_query : (s a : Query) → s.block ≡ a.block → s.value ≡ a.value → s.step ≡ a.step → s ≡ a
same_query s a k v l =
    ap (λ (n : ℕ). let t : Query = record { block = n; value = s.value; step = s.step } in t) k
    ∙ ap (λ (n : ℕ). let t : Query = record { block = a.block; value = n; step = s.step } in t) v
    ∙ ap (λ (n : ℕ). let t : Query = record { block = a.block; value = a.value; step = n } in t) l

pub one_use : (G : Table) (c : Code) (starts : List ℕ) (b at n : ℕ) (s a : Query) → IsCode G c
    → IsUseQuery G (insts_of c) starts b at n s → IsUseQuery G (insts_of c) starts b at n a → s ≡ a
one_use G c starts b at n s a is u w =
    let e : u.id ≡ w.id = one_id G (insts_of c) at n u.id w.id u.role w.role u.used w.used in
    let v : s.value ≡ a.value = one_place G c w.id s.value a.value is
    (subst (λ (y : ℕ). IsDefinedAt (insts_of c) y s.value) e u.defined) w.defined in
    let k : s.block ≡ a.block = u.block ∙ sym w.block in
    let l : s.step ≡ a.step = u.step ∙ sym w.step in
    same_query s a k v l

-- pairs

-- where nothing is found, and where it is not local, nothing is paired
pub none_paired : (G : Table) (c : Code) (at n : ℕ) → IsFoundAt G (insts_of c) at n None
    → IsPairedAt G (insts_of c) at n None
none_paired G c at n none = λ x u v. none x v.place Value u v.defined

pub not_paired : (G : Table) (c : Code) (at n d : ℕ) → IsFoundAt G (insts_of c) at n (Some d)
    → ((x : ℕ) → IsDefinedAt (insts_of c) x d → ¬ (IsLocalValue (insts_of c) x)) → IsPairedAt G (insts_of c) at n None
not_paired G c at n d found none = λ x u. none x (found x Value u)

pub no_paired : (G : Table) (c : Code) (at n : ℕ) (i : PlainInst) → slice_get (insts_of c) at ≡ Some i
    → ((x : ℕ) → ¬ (IsUse G i n x Value)) → IsPairedAt G (insts_of c) at n None
no_paired G c at n i there none = λ x u v. none x (use_in G (insts_of c) at n x Value i there u)

pub paired : (G : Table) (c : Code) (at n x d : ℕ) (i : PlainInst) → slice_get (insts_of c) at ≡ Some i
    → IsFoundAt G (insts_of c) at n (Some d) → IsUse G i n x Value
    → ((y : ℕ) → IsDefinedAt (insts_of c) y d → IsLocalValue (insts_of c) y)
    → IsPairedAt G (insts_of c) at n (Some d)
paired G c at n x d i there found used local =
    let u = use_at G (insts_of c) at n x Value i there used in
    let defined = found x Value u in
    (x, u, local x defined, defined)

pub no_pair_value : (G : Table) (c : Code) (starts : List ℕ) (at n : ℕ) → IsPairedAt G (insts_of c) at n None
    → (a : Query) → ¬ (IsPairQuery G (insts_of c) starts at n a)
no_pair_value G c starts at n none a p = none p.value p.paired p.local

label_of_pair : (G : Table) (is : List PlainInst) (starts : List ℕ) (at n : ℕ) (a : Query)
    → IsPairQuery G is starts at n a → IsLabelAt G is starts at (n + 1) a.block
label_of_pair G is starts at n a p = record { id = p.id; used = p.named; inside = p.inside; label = p.label }

pub no_pair_label : (G : Table) (c : Code) (starts : List ℕ) (at n : ℕ)
    → ((k : ℕ) → ¬ (IsLabelAt G (insts_of c) starts at (n + 1) k)) → (a : Query)
    → ¬ (IsPairQuery G (insts_of c) starts at n a)
no_pair_label G c starts at n none a p = none a.block (label_of_pair G (insts_of c) starts at n a p)

-- blocks that begin at one instruction are one
pub one_start : (is : List PlainInst) (f : ℕ) (starts : List ℕ) → IsDivided is f starts → (j k : ℕ)
    → j + 1 < length starts → k + 1 < length starts → slice_index starts j ≡ slice_index starts k → j ≡ k
one_start is f starts d j k in_j in_k e = elim (cases_order j k) [
  | inl same ↦ same
  | inr apart ↦ elim apart [
    | inl less ↦ absurd (let h = d.order j k less (omega (arith, in_k)) in omega (arith, h, e))
    | inr more ↦ absurd (let h = d.order k j more (omega (arith, in_j)) in omega (arith, h, e))
  ]
]

-- an operand is the label of one block
pub one_target : (G : Table) (c : Code) (b : Blocks) (at n j k : ℕ) → IsCode G c → AreBlocks (insts_of c) b
    → IsLabelAt G (insts_of c) b.starts.now at n j → IsLabelAt G (insts_of c) b.starts.now at n k → j ≡ k
one_target G c b at n j k is are l m =
    let e : l.id ≡ m.id = one_id G (insts_of c) at n l.id m.id Label Label l.used m.used in
    let s : slice_index b.starts.now j ≡ slice_index b.starts.now k =
    one_place G c m.id (slice_index b.starts.now j) (slice_index b.starts.now k) is
    (subst (λ (y : ℕ). IsLabelOf (insts_of c) y (slice_index b.starts.now j)) e l.label).defined m.label.defined in
    one_start (insts_of c) b.function b.starts.now are.laid.divided j k l.inside m.inside s

pub no_pair_need : (G : Table) (c : Code) (b : Blocks) (at n d h : ℕ) → IsCode G c → AreBlocks (insts_of c) b
    → IsFoundAt G (insts_of c) at n (Some d)
    → IsLabelAt G (insts_of c) b.starts.now at (n + 1) h → slice_index b.starts.now h ≤ d
    → d < slice_index b.starts.now (h + 1) → (a : Query) → ¬ (IsPairQuery G (insts_of c) b.starts.now at n a)
no_pair_need G c b at n d h is are found label from to a p =
    let s : a.value ≡ d = one_place G c p.value a.value d is p.defined (found p.value Value p.paired) in
    let k : h ≡ a.block = one_target G c b at (n + 1) h a.block is are label
    (label_of_pair G (insts_of c) b.starts.now at n a p) in
    let here : IsIn b.starts.now h a.value = record
    { block = label.inside; from = omega (arith, from, s); to = omega (arith, to, s) } in
    p.apart (subst (λ (j : ℕ). IsIn b.starts.now j a.value) k here)

pub pair_asked : (G : Table) (c : Code) (b : Blocks) (at n d h : ℕ) → IsPairedAt G (insts_of c) at n (Some d)
    → IsLabelAt G (insts_of c) b.starts.now at (n + 1) h
    → ¬ ((slice_index b.starts.now h ≤ d) × (d < slice_index b.starts.now (h + 1)))
    → IsPairQuery G (insts_of c) b.starts.now at n (record { block = h; value = d; step = at })
pair_asked G c b at n d h (x, used, local, defined) label apart = record {
  inside = label.inside;
  step = refl;
  value = x;
  paired = used;
  id = label.id;
  named = label.used;
  label = label.label;
  local = local;
  defined = defined;
  apart = λ j. apart (j.from, j.to);
}

pub one_pair : (G : Table) (c : Code) (b : Blocks) (at n : ℕ) (s a : Query) → IsCode G c → AreBlocks (insts_of c) b
    → IsPairQuery G (insts_of c) b.starts.now at n s → IsPairQuery G (insts_of c) b.starts.now at n a → s ≡ a
one_pair G c b at n s a is are u w =
    let e : u.value ≡ w.value = one_id G (insts_of c) at n u.value w.value Value Value u.paired w.paired in
    let v : s.value ≡ a.value = one_place G c w.value s.value a.value is
    (subst (λ (y : ℕ). IsDefinedAt (insts_of c) y s.value) e u.defined) w.defined in
    let k : s.block ≡ a.block = one_target G c b at (n + 1) s.block a.block is are
    (label_of_pair G (insts_of c) b.starts.now at n s u) (label_of_pair G (insts_of c) b.starts.now at n a w) in
    let l : s.step ≡ a.step = u.step ∙ sym w.step in
    same_query s a k v l
