use Rattle.std.proofs.lemmas.Bool.{iff_false}
use Rattle.spv_form_evidence.specs.capabilities.Evidence.{IsUncovered}
use Rattle.spv_form_evidence.proofs.capabilities.needs.uncovered_value.Goals as goal

pub returns : goal.returns
returns c = λ i t.
    let other = iff_false c.is_capability_kind.ensures c.if-is_capability_kind.false in
    let not = iff_false c.is_covered_value.ensures c.if-is_covered_value.false in
    IsUncovered.value c.args.operand c.args.kind c.args.value t other not
