use Rattle.std.proofs.Common.{◌≡◌, ◌≢◌, ◌∙◌, ℕ, Option, String, Global, inl, inr, arith, map, subst, sym, ap}
use Rattle.std.proofs.lemmas.Bool.{cases_lt}
use Rattle.std.specs.Ordering.{nat_cmp}
use Rattle.std.specs.BTreeMap.{get}
use Rattle.spv_module.specs.Module.{plain_inst}
use Rattle.spv_annotate.specs.Module.{inst_at}
use Rattle.spv_annotate.specs.Values.{IsValue, float_of}
use Rattle.spv_annotate.specs.inner.Values.{text_or_none}
use Rattle.spv_annotate.specs.declared.values.Bits.{Bits}
use Rattle.spv_annotate.proofs.Places.{inst_read}
use Rattle.spv_annotate.proofs.Small.{plain_length}
use Rattle.spv_annotate.proofs.values.find_values.Goals as goal

pub loop-at-preserved : goal.loop-at-preserved
loop-at-preserved c =
    let is = map plain_inst c.args.insts.now in
    let at = c.loop-at.at in
    let old = c.loop-at.texts in
    let new = c.keep.new.texts in
    let v = c.loop-at.invariant in
    let k = c.in_ok-keep.ensures in
    let e = inst_read c.args.insts.now at c.index-insts-at.result c.loop-at-test.true c.index-insts-at.is in
    let b = c.float_of-bits.ensures ∙ ap (float_of is) (sym e) in
    let here : IsValue (float_of is (inst_at is at)) (text_or_none (get nat_cmp new at)) =
    subst (λ (o : Option Bits). IsValue o (text_or_none (get nat_cmp new at))) b k.here in
    record {
      done = λ n l. elim (cases_lt n at) [
        | inl low ↦ (let ne : n ≢ at = (λ f. omega arith) in
            subst (λ (o : Option (String Global)). IsValue (float_of is (inst_at is n)) (text_or_none o))
            (sym (k.others n ne)) (v.done n low))
        | inr high ↦ (let f : at ≡ n = omega arith in
            subst (λ (m : ℕ). IsValue (float_of is (inst_at is m)) (text_or_none (get nat_cmp new m))) f here)
      ];
      left = λ n l. let ne : n ≢ at = (λ f. omega arith) in k.others n ne ∙ v.left n (omega arith);
    }

pub returns : goal.returns
returns c = λ n l.
    let p = plain_length c.args.insts.now in
    let t = c.loop-at-test.false in
    c.loop-at.invariant.done n (omega (arith, l, p, t))
