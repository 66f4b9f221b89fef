use Rattle.std.proofs.Common.{append_assoc}
use Rattle.spv_inst.specs.inner.Front.{head_operands}
use Rattle.spv_inst.proofs.front.read_front.Goals as goal

pub returns : goal.returns
returns c =
    let ws = c.args.image.now in
    let hs = head_operands c.args.head ws c.args.first in
    rw (
      c.push_ids.ensures,
      c.push_head-behind.ensures.items,
      c.in_ok-reserve.ensures.items,
      c.push_head-behind.ensures.next,
    )
    (append_assoc c.args.operands.now.items hs _)
