use Rattle.spv_printer.proofs.Labels.{mask_is, some_by, value_is}
use Rattle.spv_printer.proofs.fast_operand.label_of.Goals as goal

pub returns-in-Value : goal.returns-in-Value
returns-in-Value c = λ e. some_by c.value_label.result
    (λ a h. value_is c.args.table.now c.args.leaf c.args.kind c.args.word a.name.now a.kinds.now c.in-Value.is e h)
    c.value_label.ensures

pub returns-in-Mask : goal.returns-in-Mask
returns-in-Mask c = λ e. some_by c.mask_label.result
    (λ a h. mask_is c.args.table.now c.args.leaf c.args.kind c.args.word a.name.now a.kinds.now c.in-Mask.is e h)
    c.mask_label.ensures
