use Rattle.std.proofs.Common.{◌≡◌, Some, sym, subst}
use Rattle.std.specs.Prelude.{MatchOption, slice_get}
use Rattle.spv_module.specs.Module.{plain_operand}
use Rattle.spv_module.specs.declared.operand.Operand.{Operand}
use Rattle.spv_versions.specs.inner.Told.{IsOperandHit}
use Rattle.spv_standard_evidence.specs.inner.Versions.{IsLackOf}
use Rattle.spv_standard_evidence.proofs.versions.operand_lack.Goals as goal

pub returns-in-Value : goal.returns-in-Value
returns-in-Value c = λ i.
    let flags = c.args.missing.now.lines in
    let ns = c.args.kinds.now.numbers in
    subst (λ (o : Operand). slice_get i.operands c.args.k ≡ Some (plain_operand o)
    → MatchOption c.value_lack.result (¬ (IsOperandHit flags ns (plain_operand o)))
    (λ p. IsLackOf flags ns i p.0 p.1)) (sym c.in-Value.is) (c.value_lack.ensures i)

pub returns-in-Mask : goal.returns-in-Mask
returns-in-Mask c = λ i.
    let flags = c.args.missing.now.lines in
    let ns = c.args.kinds.now.numbers in
    subst (λ (o : Operand). slice_get i.operands c.args.k ≡ Some (plain_operand o)
    → MatchOption c.bit_lack.result (¬ (IsOperandHit flags ns (plain_operand o)))
    (λ p. IsLackOf flags ns i p.0 p.1)) (sym c.in-Mask.is) (c.bit_lack.ensures i)
