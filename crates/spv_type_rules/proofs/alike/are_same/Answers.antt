use Rattle.std.proofs.Common.{◌≡◌, true, false, refl}
use Rattle.spv_type_rules.proofs.Same.{apart, one_same, all_same}
use Rattle.spv_type_rules.proofs.alike.are_same.Goals as goal

pub returns-then-not-is_same : goal.returns-then-not-is_same
returns-then-not-is_same c = (
  λ h. absurd (let no : false ≡ true = h in cc),
  λ h. absurd (apart c.args.some.now c.args.others.now c.loop-k.k _ _ c.is_same.result c.loop-k-test.true
      c.if-some-others.false c.if-not-is_same.true c.is_same.ensures h),
)

pub loop-k-preserved : goal.loop-k-preserved
loop-k-preserved c =
    one_same c.args.some.now c.args.others.now c.loop-k.k _ _ c.is_same.result c.loop-k-test.true c.if-some-others.false
    c.if-not-is_same.false c.is_same.ensures c.loop-k.invariant

pub returns : goal.returns
returns c = (
  λ h. all_same c.args.some.now c.args.others.now c.loop-k.k c.if-some-others.false c.loop-k-test.false
      c.loop-k.invariant,
  λ h. refl,
)
