use Rattle.spv_parser.proofs.Opening.{value_taken_at, mask_taken_at}
use Rattle.spv_parser.proofs.seen.read_named.Goals as goal

pub returns-in-Ok : goal.returns-in-Ok
returns-in-Ok c = λ e. value_taken_at c.args.table.now c.args.kind c.args.token.now c.args.leaf c.in-Ok.operand e
    c.in-Value.is c.in-Ok.ensures

pub returns-in-Ok-read_mask : goal.returns-in-Ok-read_mask
returns-in-Ok-read_mask c =
    λ e. mask_taken_at c.args.table.now c.args.kind c.args.token.now c.args.leaf c.in-Ok-read_mask.operand e
    c.in-Mask.is c.in-Ok-read_mask.ensures
