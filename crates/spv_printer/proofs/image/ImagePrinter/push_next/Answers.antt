use Rattle.std.proofs.Common.{◌∙◌}
use Rattle.spv_inst.proofs.Kept.{same_kept}
use Rattle.spv_printer.proofs.ImageLines.{fast_next}
use Rattle.spv_printer.proofs.image.ImagePrinter.push_next.Goals as goal

pub returns-in_default-result-clause-next : goal.returns-in_default-result-clause-next
returns-in_default-result-clause-next c = λ before k.
    let l = rw c.in-Some.is at c.in_ok-fast.ensures in
    fast_next c.args.table.now c.args.image.now before _ _ _ _ c.args.at _ l k
    (λ i t. same_kept _ before i (t.result ∙ c.in_default-result.is) k)

pub returns-clause-next : goal.returns-clause-next
returns-clause-next c = λ before k.
    let l = rw c.in-Some.is at c.in_ok-fast.ensures in
    fast_next c.args.table.now c.args.image.now before _ _ _ _ c.args.at _ l k
    (λ i t. c.in_ok-add_result.ensures.knows before i (t.result ∙ c.in-Some-result.is) t.type_id t.opcode t.width k)
