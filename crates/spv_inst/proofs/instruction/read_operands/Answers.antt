use Rattle.std.proofs.Common.{◌≡◌, length, refl, arith}
use Rattle.spv_module.specs.Operand.{start}
use Rattle.spv_inst.specs.inner.Items.{items_of}
use Rattle.spv_inst.proofs.Turns.{at_begin, words_end}
use Rattle.spv_inst.proofs.instruction.read_operands.Goals as goal

pub returns-then-is_read-clause-read : goal.returns-then-is_read-clause-read
returns-then-is_read-clause-read c = λ b know.
    let G = c.args.scene.now.table.now in
    let e : c.len-begin.result ≡ length c.args.operands.now.items = omega arith in
    let s1 = c.read_singles-rest.ensures.sofar b (items_of c.args.pattern.now) know
    (c.read_head-rest.ensures.sofar b (items_of c.args.pattern.now)
    (rw (c.of-items.ensures, c.in_ok-reserve.ensures.items)
    (at_begin G b c.args.place.opcode (items_of c.args.pattern.now) c.args.scene.now.image.now c.args.place.first
    c.args.place.end c.len-begin.result c.args.operands.now.items e))) in
    let d = c.if-is_read.ensures refl in
    words_end G (start b c.args.place.opcode) (items_of c.args.pattern.now) _ _ _ _ _ _ _ (rw e at s1) d.0 d.1

pub returns-then-is_read-2-clause-read : goal.returns-then-is_read-2-clause-read
returns-then-is_read-2-clause-read c = λ b know.
    let G = c.args.scene.now.table.now in
    let e : c.len-begin.result ≡ length c.args.operands.now.items = omega arith in
    let s1 = c.read_singles-rest.ensures.sofar b (items_of c.args.pattern.now) know
    (c.read_head-rest.ensures.sofar b (items_of c.args.pattern.now)
    (rw (c.of-items.ensures, c.in_ok-reserve.ensures.items)
    (at_begin G b c.args.place.opcode (items_of c.args.pattern.now) c.args.scene.now.image.now c.args.place.first
    c.args.place.end c.len-begin.result c.args.operands.now.items e))) in
    let s2 = c.read_parameters-rest.ensures.sofar b (items_of c.args.pattern.now) know s1 in
    let d = c.if-is_read-2.ensures refl in
    words_end G (start b c.args.place.opcode) (items_of c.args.pattern.now) _ _ _ _ _ _ _ (rw e at s2) d.0 d.1

pub returns-then-is_read-3-clause-read : goal.returns-then-is_read-3-clause-read
returns-then-is_read-3-clause-read c = λ b know.
    let G = c.args.scene.now.table.now in
    let e : c.len-begin.result ≡ length c.args.operands.now.items = omega arith in
    let s1 = c.read_singles-rest.ensures.sofar b (items_of c.args.pattern.now) know
    (c.read_head-rest.ensures.sofar b (items_of c.args.pattern.now)
    (rw (c.of-items.ensures, c.in_ok-reserve.ensures.items)
    (at_begin G b c.args.place.opcode (items_of c.args.pattern.now) c.args.scene.now.image.now c.args.place.first
    c.args.place.end c.len-begin.result c.args.operands.now.items e))) in
    let s2 = c.read_parameters-rest.ensures.sofar b (items_of c.args.pattern.now) know s1 in
    let s3 = c.read_run-rest.ensures.sofar b (items_of c.args.pattern.now) know s2 in
    let d = c.if-is_read-3.ensures refl in
    words_end G (start b c.args.place.opcode) (items_of c.args.pattern.now) _ _ _ _ _ _ _ (rw e at s3) d.0 d.1

pub returns-clause-read : goal.returns-clause-read
returns-clause-read c = λ b know.
    let G = c.args.scene.now.table.now in
    let e : c.len-begin.result ≡ length c.args.operands.now.items = omega arith in
    let s1 = c.read_singles-rest.ensures.sofar b (items_of c.args.pattern.now) know
    (c.read_head-rest.ensures.sofar b (items_of c.args.pattern.now)
    (rw (c.of-items.ensures, c.in_ok-reserve.ensures.items)
    (at_begin G b c.args.place.opcode (items_of c.args.pattern.now) c.args.scene.now.image.now c.args.place.first
    c.args.place.end c.len-begin.result c.args.operands.now.items e))) in
    let s2 = c.read_parameters-rest.ensures.sofar b (items_of c.args.pattern.now) know s1 in
    let s3 = c.read_run-rest.ensures.sofar b (items_of c.args.pattern.now) know s2 in
    rw e at (c.read_left.ensures.read b (items_of c.args.pattern.now) know s3)

pub returns-clause-misfit : goal.returns-clause-misfit
returns-clause-misfit c = λ b know.
    let G = c.args.scene.now.table.now in
    let e : c.len-begin.result ≡ length c.args.operands.now.items = omega arith in
    let s1 = c.read_singles-rest.ensures.sofar b (items_of c.args.pattern.now) know
    (c.read_head-rest.ensures.sofar b (items_of c.args.pattern.now)
    (rw (c.of-items.ensures, c.in_ok-reserve.ensures.items)
    (at_begin G b c.args.place.opcode (items_of c.args.pattern.now) c.args.scene.now.image.now c.args.place.first
    c.args.place.end c.len-begin.result c.args.operands.now.items e))) in
    let s2 = c.read_parameters-rest.ensures.sofar b (items_of c.args.pattern.now) know s1 in
    let s3 = c.read_run-rest.ensures.sofar b (items_of c.args.pattern.now) know s2 in
    c.read_left.ensures.misfit b (items_of c.args.pattern.now) know s3
