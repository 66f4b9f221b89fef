use Rattle.std.proofs.Common.{◌≡◌, ◌^◌, ◌∙◌, ◌↔◌, ℕ, subst, length, get_or, arith}
use Rattle.std.proofs.lemmas.Option.{slice_get-get_or}
use Rattle.spv_interfaces.specs.inner.Entries.{Begins, IsEntered, Names}
use Rattle.spv_interfaces.specs.inner.Marks.{Adds, IsMarked}
use Rattle.spv_interfaces.proofs.Naming.{begins_within, entered_more, entered_none, names_within}
use Rattle.spv_interfaces.proofs.named.begin_all.Goals as goal

pub loop-k-init : goal.loop-k-init
loop-k-init c =
    let is = c.args.definitions.now in
    let few = c.args.few.now in
    let m = c.args.marks.now in
    let f = c.requires.fresh in
    record {
      reached_count = f.reached_count;
      named_count = f.named_count;
      reached = entered_none (Begins is) few m.reached.items f.not_reached.each;
      named = entered_none (Names is) few m.named.items f.not_named.each;
    }

pub bit-requires : goal.bit-requires
bit-requires c = let t = c.loop-k-test.true in let f = c.requires.few in omega (arith, t, f)

pub begin-requires : goal.begin-requires
begin-requires c =
    let few = c.args.few.now in
    let k = c.loop-k.k in
    c.requires.within k (get_or few k 0) (slice_get-get_or few k 0 c.loop-k-test.true)

pub loop-k-preserved : goal.loop-k-preserved
loop-k-preserved c =
    let is = c.args.definitions.now in
    let few = c.args.few.now in
    let k = c.loop-k.k in
    let n = get_or few k 0 in
    let at = slice_get-get_or few k 0 c.loop-k-test.true in
    let old = c.loop-k.marks in
    let new = c.begin.new.marks in
    let i = c.loop-k.invariant in
    let a : Adds (2 ^ k) (Begins is n) old.reached.items new.reached.items =
    subst (λ (b : ℕ). Adds b (Begins is n) old.reached.items new.reached.items) c.bit.ensures c.begin.ensures.reached in
    let b : Adds (2 ^ k) (Names is n) old.named.items new.named.items =
    subst (λ (b : ℕ). Adds b (Names is n) old.named.items new.named.items) c.bit.ensures c.begin.ensures.named in
    record {
      reached_count = a.count ∙ i.reached_count;
      named_count = b.count ∙ i.named_count;
      reached = entered_more (Begins is) few k n (length is) old.reached.items new.reached.items at
          (begins_within is n) i.reached_count a i.reached;
      named = entered_more (Names is) few k n (length is) old.named.items new.named.items at
          (names_within is n) i.named_count b i.named;
    }

pub returns-clause-reached : goal.returns-clause-reached
returns-clause-reached c =
    let t = c.loop-k-test.false in
    let u = c.loop-k.auto.k-end in
    let e : c.loop-k.k ≡ length c.args.few.now = omega (arith, t, u) in
    subst (λ (n : ℕ). (f j : ℕ) → IsMarked c.loop-k.marks.reached.items f j
    ↔ IsEntered (Begins c.args.definitions.now) c.args.few.now n f j) e c.loop-k.invariant.reached

pub returns-clause-named : goal.returns-clause-named
returns-clause-named c =
    let t = c.loop-k-test.false in
    let u = c.loop-k.auto.k-end in
    let e : c.loop-k.k ≡ length c.args.few.now = omega (arith, t, u) in
    subst (λ (n : ℕ). (f j : ℕ) → IsMarked c.loop-k.marks.named.items f j
    ↔ IsEntered (Names c.args.definitions.now) c.args.few.now n f j) e c.loop-k.invariant.named
