use Rattle.std.proofs.Common.{◌≡◌, ℕ, length, get_or, subst, arith}
use Rattle.std.proofs.lemmas.Option.{slice_get-get_or}
use Rattle.spv_interfaces.specs.inner.Cleared.{Clears, IsOfOneBefore}
use Rattle.spv_interfaces.specs.inner.Entries.{Begins, Names}
use Rattle.spv_interfaces.proofs.Clearing.{ones_more, ones_none}
use Rattle.spv_interfaces.proofs.cleared.end_all.Goals as goal

pub loop-number-init : goal.loop-number-init
loop-number-init c =
    let is = c.args.definitions.now in
    record {
      reached = ones_none (Begins is) c.args.few.now c.args.marks.now.reached.items;
      named = ones_none (Names is) c.args.few.now c.args.marks.now.named.items;
    }

pub end-requires : goal.end-requires
end-requires c =
    let few = c.args.few.now in
    let k = c.loop-number.number-index in
    c.requires k (get_or few k 0) (slice_get-get_or few k 0 c.loop-number-test.true)

pub loop-number-preserved : goal.loop-number-preserved
loop-number-preserved c =
    let is = c.args.definitions.now in
    let few = c.args.few.now in
    let k = c.loop-number.number-index in
    let n = get_or few k 0 in
    let at = slice_get-get_or few k 0 c.loop-number-test.true in
    let first = c.args.marks.now in
    let old = c.loop-number.marks in
    let new = c.end.new.marks in
    record {
      reached = ones_more (Begins is) few k n first.reached.items old.reached.items new.reached.items at
          c.loop-number.invariant.reached c.end.ensures.reached;
      named = ones_more (Names is) few k n first.named.items old.named.items new.named.items at
          c.loop-number.invariant.named c.end.ensures.named;
    }

pub returns-clause-reached : goal.returns-clause-reached
returns-clause-reached c =
    let t = c.loop-number-test.false in
    let u = c.loop-number.auto.number-index-end in
    let e : c.loop-number.number-index ≡ length c.args.few.now = omega (arith, t, u) in
    subst (λ (n : ℕ). Clears (IsOfOneBefore (Begins c.args.definitions.now) c.args.few.now n)
    c.args.marks.now.reached.items c.loop-number.marks.reached.items) e c.loop-number.invariant.reached

pub returns-clause-named : goal.returns-clause-named
returns-clause-named c =
    let t = c.loop-number-test.false in
    let u = c.loop-number.auto.number-index-end in
    let e : c.loop-number.number-index ≡ length c.args.few.now = omega (arith, t, u) in
    subst (λ (n : ℕ). Clears (IsOfOneBefore (Names c.args.definitions.now) c.args.few.now n)
    c.args.marks.now.named.items c.loop-number.marks.named.items) e c.loop-number.invariant.named
