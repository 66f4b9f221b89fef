use Rattle.std.proofs.Common.{◌≡◌, ◌^◌, ◌∙◌, ℕ, refl, get_or, subst, arith}
use Rattle.std.proofs.lemmas.Option.{slice_get-get_or, slice_get_within}
use Rattle.spv_interfaces.specs.inner.Marks.{Adds}
use Rattle.spv_interfaces.proofs.Missing.{noted_one, noted_too}
use Rattle.spv_interfaces.proofs.lacking.note_variables.Goals as goal

pub loop-k-init : goal.loop-k-init
loop-k-init c = record {
  count = refl;
  sound = λ v k h. absurd (c.requires.blank v k h);
  complete = λ v k l w h. absurd (omega (arith, l));
}

pub bit-requires : goal.bit-requires
bit-requires c = let t = c.loop-k-test.true in let f = c.requires.few in omega (arith, t, f)

pub loop-k-preserved : goal.loop-k-preserved
loop-k-preserved c =
    let few = c.args.few.now in
    let k = c.loop-k.k in
    let n = get_or few k 0 in
    let at = slice_get-get_or few k 0 c.loop-k-test.true in
    let old = c.loop-k.named.items in
    let new = c.set.new.words.items in
    let a : Adds (2 ^ k) (λ f. f ≡ n) old new =
    subst (λ (b : ℕ). Adds b (λ f. f ≡ n) old new) c.bit.ensures c.set.ensures.adds in
    let i = c.loop-k.invariant in
    record {
      count = a.count ∙ i.count;
      sound = noted_one few k n old new at a i.sound;
      complete = noted_too few k n old new at a i.complete;
    }

pub returns-clause-complete : goal.returns-clause-complete
returns-clause-complete c = λ v k l at.
    let w = slice_get_within c.args.few.now k v at in
    let t = c.loop-k-test.false in
    let e = c.loop-k.invariant.count in
    c.loop-k.invariant.complete v k (omega (arith, w, t)) (omega (arith, l, e)) at
