-- The first broken rule of a stage, by what is known of the instructions.
use Rattle.std.proofs.Common.{◌≡◌, ◌<◌, ◌≤◌, ◌+◌, ◌⊎◌, inl, inr, ⊎_elim, ℕ, List, Some, length, sym, ◌∙◌, subst, arith}
use Rattle.std.specs.Prelude.{slice_get}
use Rattle.std.proofs.lemmas.Bool.{cases_lt}
use Rattle.std.proofs.lemmas.Option.{slice_get_within}
use Rattle.spv_table.specs.Table.{Table}
use Rattle.spv_module.specs.Operand.{PlainInst}
use Rattle.spv_module.specs.declared.fault.Rule.{Rule}
use Rattle.spv_module.specs.declared.fault.Stop.{Stop}
use Rattle.spv_module.specs.declared.fault.Stop.TheVariants.{Fault as StopFault, Memory}
use Rattle.spv_ids.specs.inner.Outcome.{IsStopAt}
use Rattle.spv_check.specs.types.Outcome.{IsRefusal}
use Rattle.spv_layout.specs.First.{IsFirst, IsUnbroken, stage_of, rank_of}
use Rattle.spv_layout.specs.Stage as stages
use Rattle.spv_type_rules.specs.roles.Broken as roles
use Rattle.spv_capabilities.specs.Keeps as capabilities
use Rattle.spv_ops.specs.Typed.{IsTyped}
use Rattle.spv_type_rules.specs.Keeps as rules
use Rattle.spv_check.specs.types.Broken.{Broken}
use Rattle.spv_check.specs.inner.Pass.{KeepsRule, AreKept, IsFirstOfTypes, IsFirstFault}
use Rattle.spv_check.proofs.Stages.{early, untyped, capable_first, typed_first}

-- The first broken rule at an instruction, before which all is kept.

pub capable_fault : (G : Table) (is : List PlainInst) (n : ℕ) (i : PlainInst) (r : Rule) → slice_get is n ≡ Some i
    → ¬ (capabilities.Keeps G is r n i)
    → ((q : Rule) → rank_of q < rank_of r → capabilities.Keeps G is q n i) → AreKept G is n → IsFirstFault G is r n
capable_fault G is n i r at never least kept =
    let e = early G is n i r never in
    record {
      inst = i;
      there = at;
      of_stage = e.stage;
      broken = inl never;
      least = λ q l. record { capabilities = least q l; types = untyped G is n i (rank_of r) e.rank q l };
      before = kept;
    }

pub typed_fault : (G : Table) (is : List PlainInst) (n : ℕ) (i : PlainInst) (r : Rule) → slice_get is n ≡ Some i
    → IsFirstOfTypes G is n i r
    → ((q : Rule) → capabilities.Keeps G is q n i) → AreKept G is n → IsFirstFault G is r n
typed_fault G is n i r at f capable kept = record {
  inst = i;
  there = at;
  of_stage = f.of_stage;
  broken = inr f.broken;
  least = λ q l. record { capabilities = capable q; types = f.least q l };
  before = kept;
}

pub none_kept : (G : Table) (is : List PlainInst) → AreKept G is 0
none_kept G is = record { each = λ r m i l at. absurd (omega arith) }

same_inst : (is : List PlainInst) (m n : ℕ) (i j : PlainInst) → m ≡ n → slice_get is m ≡ Some j
    → slice_get is n ≡ Some i → i ≡ j
same_inst is m n i j e a b = let h : slice_get is n ≡ Some j = rw (← e) a in let k : Some i ≡ Some j = sym b ∙ h in cc

pub more_kept : (G : Table) (is : List PlainInst) (n : ℕ) (i : PlainInst) → slice_get is n ≡ Some i
    → ((q : Rule) → capabilities.Keeps G is q n i) → ((q : Rule) → rules.Keeps (IsTyped G is) is q n i) → AreKept G is n
    → AreKept G is (n + 1)
more_kept G is n i at capable typed kept = record {
  each = λ r m j l here.
      ⊎_elim
      (λ (b : m < n). kept.each r m j b here)
      (λ (b : n ≤ m).
      let e : m ≡ n = omega arith in
      let s : i ≡ j = same_inst is m n i j e here at in
      let k : KeepsRule G is r n i = record { capabilities = capable r; types = typed r } in
      rw (e, ← s) k)
      (cases_lt m n);
}

-- It is the first of its stage.

kept_or_later : (G : Table) (is : List PlainInst) (r : Rule) (n : ℕ) → IsFirstFault G is r n
    → (q : Rule) (m : ℕ) (j : PlainInst) → slice_get is m ≡ Some j
    → (KeepsRule G is q m j → ⊥) → (n < m) ⊎ ((n ≡ m) × (rank_of r ≤ rank_of q))
kept_or_later G is r n f q m j at never =
    ⊎_elim
    (λ (b : m < n). absurd (never (f.before.each q m j b at)))
    (λ (b : n ≤ m).
    ⊎_elim
    (λ (l : n < m). inl l)
    (λ (u : m ≤ n).
    let e : m ≡ n = omega arith in
    ⊎_elim
    (λ (l : rank_of q < rank_of r).
    let s : f.inst ≡ j = same_inst is m n f.inst j e at f.there in
    absurd (never (rw (e, ← s) (f.least q l))))
    (λ (l : rank_of r ≤ rank_of q). inr (sym e, l))
    (cases_lt (rank_of q) (rank_of r)))
    (cases_lt n m))
    (cases_lt m n)

least_of : (G : Table) (is : List PlainInst) (r : Rule) (n : ℕ) → IsFirstFault G is r n → (q : Rule) (m : ℕ)
    → stage_of q ≡ stages.of_types → Broken G is q m → (n < m) ⊎ ((n ≡ m) × (rank_of r ≤ rank_of q))
least_of G is r n f _ _ s (Broken.of_roles _ _ (roles.Broken.miscast m k x role used never)) =
    absurd (let wrong : 4 ≡ 5 = s in omega arith)
least_of G is r n f _ _ s (Broken.of_capabilities q m j at never) =
    kept_or_later G is r n f q m j at (λ k. never k.capabilities)
least_of G is r n f _ _ s (Broken.of_types q m j at never) = kept_or_later G is r n f q m j at (λ k. never k.types)

broken_of : (G : Table) (is : List PlainInst) (r : Rule) (n : ℕ) (i : PlainInst) → slice_get is n ≡ Some i
    → (¬ (capabilities.Keeps G is r n i)) ⊎ (¬ (rules.Keeps (IsTyped G is) is r n i)) → Broken G is r n
broken_of G is r n i at (inl never) = Broken.of_capabilities r n i at never
broken_of G is r n i at (inr never) = Broken.of_types r n i at never

pub fault_first : (G : Table) (is : List PlainInst) (r : Rule) (n : ℕ) → IsFirstFault G is r n
    → IsFirst (Broken G is) stages.of_types r n
fault_first G is r n f =
    record { of_stage = f.of_stage; broken = broken_of G is r n f.inst f.there f.broken; least = least_of G is r n f }

pub fault_within : (G : Table) (is : List PlainInst) (r : Rule) (n : ℕ) → IsFirstFault G is r n → n < length is
fault_within G is r n f = slice_get_within is n f.inst f.there

unbroken_by : (G : Table) (is : List PlainInst) → AreKept G is (length is) → (r : Rule) (n : ℕ)
    → stage_of r ≡ stages.of_types → Broken G is r n → ⊥
unbroken_by G is k _ _ s (Broken.of_roles _ _ (roles.Broken.miscast m j x role used never)) = let wrong : 4 ≡ 5 = s in
    omega arith
unbroken_by G is k _ _ s (Broken.of_capabilities r n i at never) =
    never (k.each r n i (slice_get_within is n i at) at).capabilities
unbroken_by G is k _ _ s (Broken.of_types r n i at never) = never (k.each r n i (slice_get_within is n i at) at).types

pub kept_unbroken : (G : Table) (is : List PlainInst) → AreKept G is (length is)
    → IsUnbroken (Broken G is) stages.of_types
kept_unbroken G is k = λ r n s b. unbroken_by G is k r n s b

-- The stage of Y1.

of_first : (G : Table) (is : List PlainInst) (r : Rule) (n : ℕ) → stage_of r ≡ stages.of_roles → Broken G is r n
    → roles.Broken G is r n
of_first G is _ _ s (Broken.of_roles r n b) = b
of_first G is _ _ s (Broken.of_capabilities r n i at never) = absurd (never (capable_first G is n i r s))
of_first G is _ _ s (Broken.of_types r n i at never) = absurd (never (typed_first G is n i r s))

pub roles_unbroken : (G : Table) (is : List PlainInst) → IsUnbroken (roles.Broken G is) stages.of_roles
    → IsUnbroken (Broken G is) stages.of_roles
roles_unbroken G is u = λ r n s b. u r n s (of_first G is r n s b)

pub roles_first : (G : Table) (is : List PlainInst) (r : Rule) (n : ℕ) → IsFirst (roles.Broken G is) stages.of_roles r n
    → IsFirst (Broken G is) stages.of_roles r n
roles_first G is r n f = record {
  of_stage = f.of_stage;
  broken = Broken.of_roles r n f.broken;
  least = λ q m s b. f.least q m s (of_first G is q m s b);
}

-- The same of equal lists.

pub kept_moved : (G H : Table) (is js : List PlainInst) (m : ℕ) → G ≡ H → js ≡ is → m ≡ length is → AreKept G js m
    → AreKept H is (length is)
kept_moved G H is js m g e l k =
    let a : AreKept H js m = subst (λ K. AreKept K js m) g k in
    let b : AreKept H is m = subst (λ ks. AreKept H ks m) e a in
    subst (λ n. AreKept H is n) l b

pub fault_moved : (G H : Table) (is js : List PlainInst) (r : Rule) (n : ℕ) → G ≡ H → js ≡ is → IsFirstFault G js r n
    → IsFirstFault H is r n
fault_moved G H is js r n g e f =
    let a : IsFirstFault H js r n = subst (λ K. IsFirstFault K js r n) g f in
    subst (λ ks. IsFirstFault H ks r n) e a

pub refusal_told : (G : Table) (is : List PlainInst) (r : Rule) (n : ℕ) (s : Stop)
    → IsUnbroken (Broken G is) stages.of_roles → IsFirstFault G is r n → IsStopAt is r n s → IsRefusal G is s
refusal_told G is r n Memory u f h = tt
refusal_told G is r n (StopFault a) u f h =
    let t = fault_first G is r n f in
    (inr (u, rw (h.0, h.1) t), rw h.1 h.2)
