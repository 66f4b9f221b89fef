use Rattle.std.proofs.Common.{◌<◌, ◌/◌, ◌%◌, ◌≡◌, length, drop, refl, arith}
use Rattle.std.proofs.lemmas.Result.{err_from_is_err_and}
use Rattle.spv_module.specs.Module.{plain_operands}
use Rattle.spv_inst.proofs.Instructions.{dies_uncounted, dies_past, dies_unknown, dies_misfit, is_instruction, front_of, none_known, entry_known}
use Rattle.spv_inst.proofs.instruction.read_by_pattern.Goals as goal

pub returns-then-count-eq0-clause-dead : goal.returns-then-count-eq0-clause-dead
returns-then-count-eq0-clause-dead c = λ b know.
    rw c.fault_at.ensures (
      refl,
      omega arith,
      dies_uncounted c.args.scene.now.table.now b c.args.scene.now.image.now c.args.at
          c.word-told.result c.requires.fits c.word-told.ensures c.if-count-eq0.true,
    )

pub returns-then-count-len-clause-dead : goal.returns-then-count-len-clause-dead
returns-then-count-len-clause-dead c = λ b know.
    rw c.fault_at-then-count-len.ensures (
      refl,
      omega arith,
      dies_past c.args.scene.now.table.now b c.args.scene.now.image.now c.args.at c.word-told.result c.requires.fits
          c.word-told.ensures (rw c.len.ensures.words at c.if-count-len.true),
    )

pub returns-in_default-clause-dead : goal.returns-in_default-clause-dead
returns-in_default-clause-dead c = λ b know.
    let f = front_of c.args.scene.now.image.now c.args.at c.word-told.result c.len.result c.requires.fits
    c.word-told.ensures c.len.ensures.words c.if-count-eq0.false c.if-count-len.false in
    let n : c.word-told.result % 65536 < 65536 = omega arith in
    rw c.fault_at-in_default.ensures (
      refl,
      omega arith,
      dies_unknown c.args.scene.now.table.now b c.args.scene.now.image.now c.args.at _ _ f n
          (none_known c.args.scene.now.table.now _ c.in_default.ensures),
    )

pub returns-in_err-read_operands-clause-dead : goal.returns-in_err-read_operands-clause-dead
returns-in_err-read_operands-clause-dead c = λ b know.
    let f = front_of c.args.scene.now.image.now c.args.at c.word-told.result c.len.result c.requires.fits
    c.word-told.ensures c.len.ensures.words c.if-count-eq0.false c.if-count-len.false in
    let n : c.word-told.result % 65536 < 65536 = omega arith in
    let r = err_from_is_err_and c.from_residual.result c.from_residual.ensures.1 in
    let k = entry_known c.args.scene.now.table.now _ c.in-Some.pattern c.in-Some.ensures in
    rw (r.1, r.2)
    (dies_misfit c.args.scene.now.table.now b c.args.scene.now.image.now c.args.at _ _ k.entry c.args.number
    _ f n k.known (rw k.pattern (c.in_err-read_operands.ensures.misfit b know)))

pub returns-clause-read : goal.returns-clause-read
returns-clause-read c = λ b know.
    let f = front_of c.args.scene.now.image.now c.args.at c.word-told.result c.len.result c.requires.fits
    c.word-told.ensures c.len.ensures.words c.if-count-eq0.false c.if-count-len.false in
    let n : c.word-told.result % 65536 < 65536 = omega arith in
    let w = c.word-told.type_inv in
    let l : c.word-told.result / 65536 < 65536 = omega arith in
    let n2 : c.len-first.result ≡ length c.args.operands.now.items = omega arith in
    let k = entry_known c.args.scene.now.table.now _ c.in-Some.pattern c.in-Some.ensures in
    is_instruction c.args.scene.now.table.now b c.args.scene.now.image.now c.args.at _ _ k.entry
    (plain_operands (drop c.len-first.result c.read_operands.new.operands.items)) f n l k.known
    (rw (n2, k.pattern) (c.in_ok-read_operands.ensures.read b know))
