use Rattle.std.proofs.Common.{◌≡◌, length, arith}
use Rattle.spv_inst.specs.inner.Items.{items_of}
use Rattle.spv_inst.proofs.Turns.{at_begin}
use Rattle.spv_inst.proofs.instruction.read_operands_apart.Goals as goal

pub returns-clause-read : goal.returns-clause-read
returns-clause-read c = λ b know.
    let G = c.args.scene.now.table.now in
    let e : c.len-begin.result ≡ length c.args.operands.now.items = omega arith in
    rw e at (c.read_further.ensures.read b (items_of c.args.pattern.now) know
    (rw (c.of-items.ensures, c.in_ok-reserve.ensures.items)
    (at_begin G b c.args.place.opcode (items_of c.args.pattern.now) c.args.scene.now.image.now c.args.place.first
    c.args.place.end c.len-begin.result c.args.operands.now.items e)))

pub returns-clause-misfit : goal.returns-clause-misfit
returns-clause-misfit c = λ b know.
    let G = c.args.scene.now.table.now in
    let e : c.len-begin.result ≡ length c.args.operands.now.items = omega arith in
    c.read_further.ensures.misfit b (items_of c.args.pattern.now) know
    (rw (c.of-items.ensures, c.in_ok-reserve.ensures.items)
    (at_begin G b c.args.place.opcode (items_of c.args.pattern.now) c.args.scene.now.image.now c.args.place.first
    c.args.place.end c.len-begin.result c.args.operands.now.items e))
