-- What OpEnqueueKernel asks, as a whole, is what its line asks.
use Rattle.std.proofs.Common.{◌≡◌, ◌∙◌, ◌+◌, ◌-◌, ◌<◌, ℕ, zero, suc, nat_eq, List, [], ◌∷◌, Option, Some, None, false}
use Rattle.std.proofs.Common.{refl, sym, ap, subst, drop, length, arith}
use Rattle.std.specs.Prelude.{IsSomeAnd}
use Rattle.std.specs.List.{AllByRecursion}
use Rattle.spv_module.specs.Operand.{Plain, PlainInst}
use Rattle.spv_module.specs.Width.{type_of}
use Rattle.spv_type_kinds.specs.declared.kinds.Object.TheVariants as object
use Rattle.spv_type_kinds.specs.Operands.{ids_in, after_head}
use Rattle.spv_type_forms.specs.Values.{types_of}
use Rattle.spv_conditions.specs.declared.asked.Rest.TheVariants as beside
use Rattle.spv_conditions.specs.declared.asked.Asked.TheVariants as asked
use Rattle.spv_conditions.specs.declared.asked.Asks.{Asks}
use Rattle.spv_conditions.specs.declared.asked.Asks.TheVariants as asks
use Rattle.spv_type_kinds.specs.declared.kinds.Kind.{Kind}
use Rattle.spv_type_kinds.specs.declared.kinds.Kind.TheVariants as kind
use Rattle.spv_conditions.specs.declared.seat.Seat.TheVariants as seat
use Rattle.spv_conditions.specs.Asks.{HoldsOf, conditions_in}
use Rattle.spv_conditions.specs.Block.{IsLocalSize, Takes, TakesLocals, invoked_of}
use Rattle.spv_conditions.specs.Condition.{IsOf}
use Rattle.spv_ops.specs.Values.{others_from}
use Rattle.spv_ops.specs.inner.Enqueue.{Enqueues, IsBlockOf, IsOfLocalSize}
use Rattle.spv_ops.proofs.ValuePlaces.{past}

abbrev value_is : Kind → ℕ → Asks
value_is k n = asks.Once (asked.Kind k (seat.Value n))

abbrev pub enqueue_line : List Asks
enqueue_line = value_is (kind.Object object.Queue) 0 ∷ value_is kind.Int32 1 ∷ value_is kind.Range 2
    ∷ value_is kind.Int32 3 ∷ value_is (kind.ObjectPointer object.DeviceEvent) 4
    ∷ value_is (kind.ObjectPointer object.DeviceEvent) 5
    ∷ value_is kind.Int8Pointer 6 ∷ value_is kind.Int32 7 ∷ value_is kind.Int32 8
    ∷ asks.Once (asked.Rest (beside.Block 6)) ∷ asks.Once (asked.Rest (beside.LocalSizes 6))
    ∷ asks.Once (asked.Rest (beside.Locals 6)) ∷ asks.Once (asked.Kind kind.Int32 seat.Result) ∷ []

abbrev pub AreAsked : List PlainInst → ℕ → PlainInst → Option ℕ → List ℕ → Type 0
AreAsked is n i r ts = AllByRecursion (HoldsOf is n i r ts) (conditions_in enqueue_line (length ts))

-- there is a type, and a list of them

some_of : (o : Option ℕ) (P : ℕ → Type 0) → IsSomeAnd o P → (t : ℕ) × (o ≡ Some t) × P t
some_of None P h = absurd h
some_of (Some t) P h = (t, refl, h)

all_of : (o : Option (List ℕ)) (P : List ℕ → Type 0) → IsSomeAnd o P → (ts : List ℕ) × (o ≡ Some ts) × P ts
all_of None P h = absurd h
all_of (Some ts) P h = (ts, refl, h)

both_of : (o : Option (List Plain)) (P Q : List Plain → Type 0) → IsSomeAnd o P → IsSomeAnd o Q
    → IsSomeAnd o (λ s. P s × Q s)
both_of None P Q h k = h
both_of (Some s) P Q h k = (h, k)

first_of : (o : Option (List Plain)) (P Q : List Plain → Type 0) → IsSomeAnd o (λ s. P s × Q s) → IsSomeAnd o P
first_of None P Q h = h
first_of (Some s) P Q h = h.0

second_of : (o : Option (List Plain)) (P Q : List Plain → Type 0) → IsSomeAnd o (λ s. P s × Q s) → IsSomeAnd o Q
second_of None P Q h = h
second_of (Some s) P Q h = h.1

-- the types of ids begin with that of the first

abbrev Parted : List PlainInst → ℕ → List ℕ → (List ℕ → Type 0) → Type 0
Parted is x xs Q = (t : ℕ) × (type_of is x ≡ Some t) × IsSomeAnd (types_of is xs) (λ ts. Q (t ∷ ts))

parted : (is : List PlainInst) (x : ℕ) (xs : List ℕ) (Q : List ℕ → Type 0) (o : Option ℕ) (os : Option (List ℕ))
    → type_of is x ≡ o → types_of is xs ≡ os → IsSomeAnd (types_of is (x ∷ xs)) Q → Parted is x xs Q
parted is x xs Q None os e f h = absurd (let none : ⊥ = rw e at h in none)
parted is x xs Q (Some t) None e f h = absurd (let none : ⊥ = rw (e, f) at h in none)
parted is x xs Q (Some t) (Some ts) e f h = (t, e, rw f (let all : Q (t ∷ ts) = rw (e, f) at h in all))

-- The next id of the instruction, which is not the one that is left out; and that one. What is known of them shows C.
next : (is : List PlainInst) (k : ℕ) (xs : List ℕ) (Q C : List ℕ → Type 0) → nat_eq k 6 ≡ false → ¬ (Q [])
    → IsSomeAnd (types_of is (others_from 6 k xs)) Q
    → ((x : ℕ) (ys : List ℕ) (t : ℕ) → type_of is x ≡ Some t
    → IsSomeAnd (types_of is (others_from 6 (k + 1) ys)) (λ (ts : List ℕ). Q (t ∷ ts)) → C (x ∷ ys)) → C xs
next is k [] Q C e n h c = absurd (n h)
next is k (x ∷ xs) Q C e n h c =
    let ys = others_from 6 (k + 1) xs in
    let all : IsSomeAnd (types_of is (x ∷ ys)) Q = rw e at h in
    let p = parted is x ys Q (type_of is x) (types_of is ys) refl refl all in
    c x xs p.0 p.1 p.2

passed : (is : List PlainInst) (xs : List ℕ) (Q C : List ℕ → Type 0) → ¬ (Q [])
    → IsSomeAnd (types_of is (others_from 6 6 xs)) Q
    → ((x : ℕ) (ys : List ℕ) → IsSomeAnd (types_of is (others_from 6 7 ys)) Q → C (x ∷ ys)) → C xs
passed is [] Q C n h c = absurd (n h)
passed is (x ∷ xs) Q C n h c = c x xs h

-- the types of ids from those of the first and of the others
typed_front : (is : List PlainInst) (x t : ℕ) (xs ts : List ℕ) → type_of is x ≡ Some t → types_of is xs ≡ Some ts
    → types_of is (x ∷ xs) ≡ Some (t ∷ ts)
typed_front is x t xs ts e f = rw (e, f) refl

-- sizes of local memory

sizes_of : (is : List PlainInst) (ls : List ℕ) → AllByRecursion (IsOfLocalSize is) ls
    → (ts : List ℕ) × (types_of is ls ≡ Some ts) × (length ts ≡ length ls) × AllByRecursion (IsLocalSize is) ts
sizes_of is [] h = ([], refl, refl, tt)
sizes_of is (x ∷ ls) h =
    let one = some_of (type_of is x) (IsLocalSize is) h.0 in
    let more = sizes_of is ls h.1 in
    (one.0 ∷ more.0, typed_front is x one.0 ls more.0 one.1 more.1, ap suc more.2, (one.2, more.3))

of_sizes : (is : List PlainInst) (ls ts : List ℕ) → types_of is ls ≡ Some ts → AllByRecursion (IsLocalSize is) ts
    → (length ts ≡ length ls) × AllByRecursion (IsOfLocalSize is) ls
of_sizes is [] ts e h = let none : [] ≡ ts = cc in (ap length (sym none), tt)
of_sizes is (x ∷ ls) ts e h =
    let there : IsSomeAnd (types_of is (x ∷ ls)) (λ us. us ≡ ts) = rw e refl in
    let p = parted is x ls (λ us. us ≡ ts) (type_of is x) (types_of is ls) refl refl there in
    let q = all_of (types_of is ls) (λ us. (p.0 ∷ us) ≡ ts) p.2 in
    let sizes : AllByRecursion (IsLocalSize is) (p.0 ∷ q.0) = subst (AllByRecursion (IsLocalSize is)) (sym q.2) h in
    let more = of_sizes is ls q.0 q.1 sizes.1 in
    (ap length (sym q.2) ∙ ap suc more.0, (rw p.1 sizes.0, more.1))

-- what is asked of the types is asked of the ids
assembled : (is : List PlainInst) (n : ℕ) (i : PlainInst) (r o p q e w v f b s a : ℕ) (ls : List ℕ)
    → (ot pt qt et wt vt bt st al : ℕ) (us : List ℕ)
    → ids_in (after_head i.operands) ≡ o ∷ p ∷ q ∷ e ∷ w ∷ v ∷ f ∷ b ∷ s ∷ a ∷ ls
    → type_of is o ≡ Some ot → type_of is p ≡ Some pt → type_of is q ≡ Some qt → type_of is e ≡ Some et
    → type_of is w ≡ Some wt → type_of is v ≡ Some vt → type_of is b ≡ Some bt → type_of is s ≡ Some st
    → type_of is a ≡ Some al → types_of is ls ≡ Some us
    → AreAsked is n i (Some r) (ot ∷ pt ∷ qt ∷ et ∷ wt ∷ vt ∷ bt ∷ st ∷ al ∷ us)
    → Enqueues is r (o ∷ p ∷ q ∷ e ∷ w ∷ v ∷ f ∷ b ∷ s ∷ a ∷ ls)
assembled is n i r o p q e w v f b s a ls ot pt qt et wt vt bt st al us ids oe pe qe ee we ve be se ae lse c =
    let sizes = of_sizes is ls us lse c.1.1.1.1.1.1.1.1.1.1.0 in
    let takes : IsSomeAnd (invoked_of is f) (Takes is bt) = rw ids at c.1.1.1.1.1.1.1.1.1.0 in
    let locals : IsSomeAnd (invoked_of is f) (TakesLocals is (length us)) = rw ids at c.1.1.1.1.1.1.1.1.1.1.1.0 in
    let many : length (o ∷ p ∷ q ∷ e ∷ w ∷ v ∷ f ∷ b ∷ s ∷ a ∷ ls) - 10 ≡ length ls = omega arith in
    let block = both_of (invoked_of is f) (Takes is bt) (TakesLocals is (length us)) takes locals in
    let fits : IsBlockOf is f b (length us) = rw be block in (
      c.1.1.1.1.1.1.1.1.1.1.1.1.0,
      (rw oe c.0, rw pe c.1.0, rw qe c.1.1.0, rw ee c.1.1.1.0, rw we c.1.1.1.1.0, rw ve c.1.1.1.1.1.0),
      (
        rw be c.1.1.1.1.1.1.0,
        rw se c.1.1.1.1.1.1.1.0,
        rw ae c.1.1.1.1.1.1.1.1.0,
        subst (IsBlockOf is f b) (sizes.0 ∙ sym many) fits,
        sizes.1,
      ),
    )

abbrev Wanted : List PlainInst → PlainInst → ℕ → List ℕ → Type 0
Wanted is i r xs = ids_in (after_head i.operands) ≡ xs → Enqueues is r xs

ending : (is : List PlainInst) (n : ℕ) (i : PlainInst) (r o p q e w v f b s a : ℕ) (ls : List ℕ)
    → (ot pt qt et wt vt bt st al : ℕ)
    → type_of is o ≡ Some ot → type_of is p ≡ Some pt → type_of is q ≡ Some qt → type_of is e ≡ Some et
    → type_of is w ≡ Some wt → type_of is v ≡ Some vt → type_of is b ≡ Some bt → type_of is s ≡ Some st
    → type_of is a ≡ Some al
    → IsSomeAnd (types_of is (others_from 6 10 ls)) (λ (us : List ℕ). AreAsked is n i (Some r)
    (ot ∷ pt ∷ qt ∷ et ∷ wt ∷ vt ∷ bt ∷ st ∷ al ∷ us))
    → Wanted is i r (o ∷ p ∷ q ∷ e ∷ w ∷ v ∷ f ∷ b ∷ s ∷ a ∷ ls)
ending is n i r o p q e w v f b s a ls ot pt qt et wt vt bt st al oe pe qe ee we ve be se ae h = λ ids.
    let last = all_of (types_of is (others_from 6 10 ls))
    (λ (us : List ℕ). AreAsked is n i (Some r) (ot ∷ pt ∷ qt ∷ et ∷ wt ∷ vt ∷ bt ∷ st ∷ al ∷ us)) h in
    let types : types_of is ls ≡ Some last.0 = ap (types_of is) (sym (past 6 10 ls (omega arith))) ∙ last.1 in
    assembled is n i r o p q e w v f b s a ls ot pt qt et wt vt bt st al last.0 ids oe pe qe ee we ve be se ae types
    last.2

pub holds_enqueue : (is : List PlainInst) (n : ℕ) (i : PlainInst) (r : ℕ) (xs : List ℕ)
    → ids_in (after_head i.operands) ≡ xs
    → IsSomeAnd (types_of is (others_from 6 0 xs)) (AreAsked is n i (Some r)) → Enqueues is r xs
holds_enqueue is n i r xs ids h =
    let Q : List ℕ → Type 0 = AreAsked is n i (Some r) in
    let W : List ℕ → Type 0 = Wanted is i r in
    next is 0 xs Q W refl (λ c. c.0) h (λ o xs0 ot oe h0.
    next is 1 xs0 (λ ts. Q (ot ∷ ts)) (λ zs. W (o ∷ zs)) refl (λ c. c.1.0) h0 (λ p xs1 pt pe h1.
    next is 2 xs1 (λ ts. Q (ot ∷ pt ∷ ts)) (λ zs. W (o ∷ p ∷ zs)) refl (λ c. c.1.1.0) h1 (λ q xs2 qt qe h2.
    next is 3 xs2 (λ ts. Q (ot ∷ pt ∷ qt ∷ ts)) (λ zs. W (o ∷ p ∷ q ∷ zs)) refl (λ c. c.1.1.1.0) h2 (λ e xs3 et ee h3.
    next is 4 xs3 (λ ts. Q (ot ∷ pt ∷ qt ∷ et ∷ ts)) (λ zs. W (o ∷ p ∷ q ∷ e ∷ zs)) refl (λ c. c.1.1.1.1.0) h3
    (λ w xs4 wt we h4.
    next is 5 xs4 (λ ts. Q (ot ∷ pt ∷ qt ∷ et ∷ wt ∷ ts)) (λ zs. W (o ∷ p ∷ q ∷ e ∷ w ∷ zs)) refl
    (λ c. c.1.1.1.1.1.0) h4 (λ v xs5 vt ve h5.
    passed is xs5 (λ ts. Q (ot ∷ pt ∷ qt ∷ et ∷ wt ∷ vt ∷ ts)) (λ zs. W (o ∷ p ∷ q ∷ e ∷ w ∷ v ∷ zs))
    (λ c. c.1.1.1.1.1.1.0) h5 (λ f xs6 h6.
    next is 7 xs6 (λ ts. Q (ot ∷ pt ∷ qt ∷ et ∷ wt ∷ vt ∷ ts)) (λ zs. W (o ∷ p ∷ q ∷ e ∷ w ∷ v ∷ f ∷ zs)) refl
    (λ c. c.1.1.1.1.1.1.0) h6 (λ b xs7 bt be h7.
    next is 8 xs7 (λ ts. Q (ot ∷ pt ∷ qt ∷ et ∷ wt ∷ vt ∷ bt ∷ ts))
    (λ zs. W (o ∷ p ∷ q ∷ e ∷ w ∷ v ∷ f ∷ b ∷ zs)) refl (λ c. c.1.1.1.1.1.1.1.0) h7 (λ s xs8 st se h8.
    next is 9 xs8 (λ ts. Q (ot ∷ pt ∷ qt ∷ et ∷ wt ∷ vt ∷ bt ∷ st ∷ ts))
    (λ zs. W (o ∷ p ∷ q ∷ e ∷ w ∷ v ∷ f ∷ b ∷ s ∷ zs)) refl (λ c. c.1.1.1.1.1.1.1.1.0) h8 (λ a ls al ae h9.
    ending is n i r o p q e w v f b s a ls ot pt qt et wt vt bt st al oe pe qe ee we ve be se ae h9)))))))))) ids

-- and the other way round

block_at : (is : List PlainInst) (f b t count : ℕ) → type_of is b ≡ Some t → IsBlockOf is f b count
    → IsSomeAnd (invoked_of is f) (λ s. Takes is t s × TakesLocals is count s)
block_at is f b t count e h = rw e at h

all_asked : (is : List PlainInst) (n : ℕ) (i : PlainInst) (r o p q e w v f b s a : ℕ) (ls : List ℕ)
    → (ot pt qt et wt vt bt st al : ℕ) (us : List ℕ)
    → ids_in (after_head i.operands) ≡ o ∷ p ∷ q ∷ e ∷ w ∷ v ∷ f ∷ b ∷ s ∷ a ∷ ls
    → IsOf is (kind.Object object.Queue) ot → IsOf is kind.Int32 pt → IsOf is kind.Range qt → IsOf is kind.Int32 et
    → IsOf is (kind.ObjectPointer object.DeviceEvent) wt → IsOf is (kind.ObjectPointer object.DeviceEvent) vt
    → IsOf is kind.Int8Pointer bt → IsOf is kind.Int32 st → IsOf is kind.Int32 al
    → IsSomeAnd (invoked_of is f) (Takes is bt) → AllByRecursion (IsLocalSize is) us
    → IsSomeAnd (invoked_of is f) (TakesLocals is (length us)) → IsOf is kind.Int32 r
    → AreAsked is n i (Some r) (ot ∷ pt ∷ qt ∷ et ∷ wt ∷ vt ∷ bt ∷ st ∷ al ∷ us)
all_asked is n i r o p q e w v f b s a ls ot pt qt et wt vt bt st al us ids oq pq qq eq wq vq bq sq aq takes sizes
    locals rq =
    (oq, (pq, (qq, (eq, (wq, (vq, (bq, (sq, (aq, (rw ids takes, (sizes, (rw ids locals, (rq, tt)))))))))))))

typed_all : (is : List PlainInst) (o p q e w v b s a ot pt qt et wt vt bt st al : ℕ) (xs us : List ℕ)
    → type_of is o ≡ Some ot → type_of is p ≡ Some pt → type_of is q ≡ Some qt → type_of is e ≡ Some et
    → type_of is w ≡ Some wt → type_of is v ≡ Some vt → type_of is b ≡ Some bt → type_of is s ≡ Some st
    → type_of is a ≡ Some al → types_of is xs ≡ Some us
    → types_of is (o ∷ p ∷ q ∷ e ∷ w ∷ v ∷ b ∷ s ∷ a ∷ xs) ≡ Some (ot ∷ pt ∷ qt ∷ et ∷ wt ∷ vt ∷ bt ∷ st ∷ al ∷ us)
typed_all is o p q e w v b s a ot pt qt et wt vt bt st al xs us oe pe qe ee we ve be se ae l =
    typed_front is o ot (p ∷ q ∷ e ∷ w ∷ v ∷ b ∷ s ∷ a ∷ xs) (pt ∷ qt ∷ et ∷ wt ∷ vt ∷ bt ∷ st ∷ al ∷ us) oe
    (typed_front is p pt (q ∷ e ∷ w ∷ v ∷ b ∷ s ∷ a ∷ xs) (qt ∷ et ∷ wt ∷ vt ∷ bt ∷ st ∷ al ∷ us) pe
    (typed_front is q qt (e ∷ w ∷ v ∷ b ∷ s ∷ a ∷ xs) (et ∷ wt ∷ vt ∷ bt ∷ st ∷ al ∷ us) qe
    (typed_front is e et (w ∷ v ∷ b ∷ s ∷ a ∷ xs) (wt ∷ vt ∷ bt ∷ st ∷ al ∷ us) ee
    (typed_front is w wt (v ∷ b ∷ s ∷ a ∷ xs) (vt ∷ bt ∷ st ∷ al ∷ us) we
    (typed_front is v vt (b ∷ s ∷ a ∷ xs) (bt ∷ st ∷ al ∷ us) ve
    (typed_front is b bt (s ∷ a ∷ xs) (st ∷ al ∷ us) be
    (typed_front is s st (a ∷ xs) (al ∷ us) se (typed_front is a al xs us ae l))))))))

pub enqueue_holds : (is : List PlainInst) (n : ℕ) (i : PlainInst) (r : ℕ) (xs : List ℕ)
    → ids_in (after_head i.operands) ≡ xs → Enqueues is r xs
    → IsSomeAnd (types_of is (others_from 6 0 xs)) (AreAsked is n i (Some r))
enqueue_holds is n i r [] ids h = absurd h.2.2
enqueue_holds is n i r (o ∷ []) ids h = absurd h.2.2
enqueue_holds is n i r (o ∷ p ∷ []) ids h = absurd h.2.2
enqueue_holds is n i r (o ∷ p ∷ q ∷ []) ids h = absurd h.2.2
enqueue_holds is n i r (o ∷ p ∷ q ∷ e ∷ []) ids h = absurd h.2.2
enqueue_holds is n i r (o ∷ p ∷ q ∷ e ∷ w ∷ []) ids h = absurd h.2.2
enqueue_holds is n i r (o ∷ p ∷ q ∷ e ∷ w ∷ v ∷ []) ids h = absurd h.2.2
enqueue_holds is n i r (o ∷ p ∷ q ∷ e ∷ w ∷ v ∷ f ∷ []) ids h = absurd h.2.2
enqueue_holds is n i r (o ∷ p ∷ q ∷ e ∷ w ∷ v ∷ f ∷ b ∷ []) ids h = absurd h.2.2
enqueue_holds is n i r (o ∷ p ∷ q ∷ e ∷ w ∷ v ∷ f ∷ b ∷ s ∷ []) ids h = absurd h.2.2
enqueue_holds is n i r (o ∷ p ∷ q ∷ e ∷ w ∷ v ∷ f ∷ b ∷ s ∷ a ∷ ls) ids h =
    let front = h.1 in
    let ot = some_of (type_of is o) (IsOf is (kind.Object object.Queue)) front.0 in
    let pt = some_of (type_of is p) (IsOf is kind.Int32) front.1 in
    let qt = some_of (type_of is q) (IsOf is kind.Range) front.2 in
    let et = some_of (type_of is e) (IsOf is kind.Int32) front.3 in
    let wt = some_of (type_of is w) (IsOf is (kind.ObjectPointer object.DeviceEvent)) front.4 in
    let vt = some_of (type_of is v) (IsOf is (kind.ObjectPointer object.DeviceEvent)) front.5 in
    let after = h.2 in
    let bt = some_of (type_of is b) (IsOf is kind.Int8Pointer) after.0 in
    let st = some_of (type_of is s) (IsOf is kind.Int32) after.1 in
    let al = some_of (type_of is a) (IsOf is kind.Int32) after.2 in
    let sizes = sizes_of is ls after.4 in
    let many : length (o ∷ p ∷ q ∷ e ∷ w ∷ v ∷ f ∷ b ∷ s ∷ a ∷ ls) - 10 ≡ length ls = omega arith in
    let whole : IsBlockOf is f b (length sizes.0) = subst (IsBlockOf is f b) (many ∙ sym sizes.2) after.3 in
    let block : IsSomeAnd (invoked_of is f) (λ y. Takes is bt.0 y × TakesLocals is (length sizes.0) y) =
    block_at is f b bt.0 (length sizes.0) bt.1 whole in
    let last : types_of is (others_from 6 10 ls) ≡ Some sizes.0 = ap (types_of is) (past 6 10 ls (omega arith))
    ∙ sizes.1 in
    let takes = first_of (invoked_of is f) (Takes is bt.0) (TakesLocals is (length sizes.0)) block in
    let locals = second_of (invoked_of is f) (Takes is bt.0) (TakesLocals is (length sizes.0)) block in
    let types : types_of is (others_from 6 0 (o ∷ p ∷ q ∷ e ∷ w ∷ v ∷ f ∷ b ∷ s ∷ a ∷ ls))
    ≡ Some (ot.0 ∷ pt.0 ∷ qt.0 ∷ et.0 ∷ wt.0 ∷ vt.0 ∷ bt.0 ∷ st.0 ∷ al.0 ∷ sizes.0) =
    typed_all is o p q e w v b s a ot.0 pt.0 qt.0 et.0 wt.0 vt.0 bt.0 st.0 al.0 (others_from 6 10 ls) sizes.0 ot.1 pt.1
    qt.1 et.1 wt.1 vt.1 bt.1 st.1 al.1 last in
    subst (λ (ts : Option (List ℕ)). IsSomeAnd ts (AreAsked is n i (Some r))) (sym types)
    (all_asked is n i r o p q e w v f b s a ls ot.0 pt.0 qt.0 et.0 wt.0 vt.0 bt.0 st.0 al.0 sizes.0 ids ot.2 pt.2 qt.2
    et.2
    wt.2 vt.2 bt.2 st.2 al.2 takes sizes.3 locals h.0)

-- ids past so many
pub past_one : (n x : ℕ) (xs : List ℕ) → 0 < n → drop n (x ∷ xs) ≡ drop (n - 1) xs
past_one zero x xs h = absurd (omega (arith, h))
past_one (suc n) x xs h = let e : n ≡ suc n - 1 = omega arith in ap (λ m. drop m xs) e
