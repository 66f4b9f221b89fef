use Rattle.std.proofs.lemmas.Bool.{iff_false}
use Rattle.spv_form_evidence.specs.capabilities.Evidence.{IsUncovered}
use Rattle.spv_form_evidence.proofs.capabilities.needs.uncovered_mask.Goals as goal

pub returns : goal.returns
returns c = λ i t.
    let other = iff_false c.is_capability_kind.ensures c.if-is_capability_kind.false in
    IsUncovered.bit c.args.operand c.args.kind c.args.mask c.in_ok-bit.bit t other
    c.in_ok-bit.ensures.set c.in_ok-bit.ensures.uncovered
