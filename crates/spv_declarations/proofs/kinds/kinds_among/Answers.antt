use Rattle.std.proofs.Common.{◌≡◌, arith, refl, subst}
use Rattle.spv_declarations.specs.inner.Kinds.{AreKinds}
use Rattle.spv_declarations.specs.inner.Spans.{AreSpans}
use Rattle.spv_declarations.proofs.Without.{kinds_none, kinds_more}
use Rattle.spv_declarations.proofs.Spanned.{spans_none, spans_more}
use Rattle.spv_declarations.proofs.kinds.kinds_among.Goals as goal

pub loop-number-init : goal.loop-number-init
loop-number-init c = record {
  kinds = kinds_none c.args.definitions.now _;
  spans = spans_none c.args.definitions.now _ refl refl refl;
}

pub loop-number-preserved : goal.loop-number-preserved
loop-number-preserved c = record {
  kinds = kinds_more c.args.definitions.now c.loop-number.number _ _ _ c.inst.ensures c.note.ensures.kinds
      c.loop-number.invariant.kinds;
  spans = spans_more c.args.definitions.now c.loop-number.number _ _ _ c.inst.ensures c.note.ensures.spans
      c.loop-number.invariant.spans;
}

pub returns-clause-kinds : goal.returns-clause-kinds
returns-clause-kinds c =
    let e : c.loop-number.number ≡ c.args.count = omega arith in
    subst (λ n. AreKinds c.args.definitions.now n c.loop-number.kinds) e c.loop-number.invariant.kinds

pub returns-clause-spans : goal.returns-clause-spans
returns-clause-spans c =
    let e : c.loop-number.number ≡ c.args.count = omega arith in
    subst (λ n. AreSpans c.args.definitions.now n c.loop-number.spans) e c.loop-number.invariant.spans
