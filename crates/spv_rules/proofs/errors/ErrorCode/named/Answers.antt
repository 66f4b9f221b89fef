use Rattle.std.proofs.Common.{◌∙◌, IsTrue, false, ap, map, sym, arith}
use Rattle.std.specs.Char.{to_ascii_lowercase}
use Rattle.spv_rules.specs.Errors.{error_name}
use Rattle.spv_rules.specs.Rules.{IsNamed}
use Rattle.spv_rules.proofs.Named.{nameless_error, unnamed_more}
use Rattle.spv_rules.proofs.errors.ErrorCode.named.Goals as goal

never : ¬ (IsTrue false)
never e = cc

pub loop-place-preserved : goal.loop-place-preserved
loop-place-preserved c =
    let not : ¬ (IsNamed c.args.name.now (error_name c.error_at-code.result)) =
    λ h. never (c.if-eq_ignore_ascii_case.ensures.test.1 (h ∙ ap (map to_ascii_lowercase) (sym c.name.ensures))) in
    unnamed_more c.args.name.now c.loop-place.place _ c.error_at-code.ensures not c.loop-place.invariant

pub returns : goal.returns
returns c = nameless_error c.args.name.now (λ n code l. c.loop-place.invariant n code (omega (arith, l, c.loop-place-test.false)))
