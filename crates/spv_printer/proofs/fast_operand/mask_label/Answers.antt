use Rattle.spv_table.specs.Table.{kind_of}
use Rattle.spv_inst.specs.Reading.{enumerants_at}
use Rattle.spv_printer.proofs.Labels.{bit_label, some_by, zero_label}
use Rattle.spv_printer.proofs.fast_operand.mask_label.Goals as goal

pub returns-then-mask-eq0 : goal.returns-then-mask-eq0
returns-then-mask-eq0 c =
    zero_label (enumerants_at (kind_of c.args.table.now c.args.kind)) c.args.mask c.in_ok-label.label.name.now
    c.if-mask-eq0.true c.in_ok-label.ensures.0

pub returns : goal.returns
returns c =
    let h = c.has.ensures c.args.table.now c.requires c.if-not-has.false in
    let b = c.is_low_bit.ensures c.if-not-is_low_bit.false in
    some_by c.enumerant_label.result (λ a n. bit_label
    (enumerants_at (kind_of c.args.table.now c.args.kind)) c.args.mask a.name.now a.kinds.now c.if-mask-eq0.false b
    h n) c.enumerant_label.ensures
