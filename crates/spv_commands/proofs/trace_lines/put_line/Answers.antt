use Rattle.std.proofs.Common.{◌-◌, arith}
use Rattle.std.proofs.lemmas.List.{length-set}
use Rattle.spv_commands.proofs.TraceLines.{digits_fit, line_put}
use Rattle.spv_commands.proofs.trace_lines.put_line.Goals as goal

pub write_digits-second-requires : goal.write_digits-second-requires
write_digits-second-requires c =
    let fit = digits_fit c.from.result c.args.inst c.from.ensures (omega (arith, c.ranges.inst)) in
    let size = length-set c.args.block.now (c.args.end - 1) 10 in
    (omega (arith, fit, c.requires.room), omega (arith, size, c.requires.within))

pub overflow_sub-block-2 : goal.overflow_sub-block-2
overflow_sub-block-2 c =
    let fit = digits_fit c.from.result c.args.inst c.from.ensures (omega (arith, c.ranges.inst)) in
    omega (arith, fit, c.requires.room, c.write_digits-second.ensures.start)

pub overflow_sub-second : goal.overflow_sub-second
overflow_sub-second c =
    let fit = digits_fit c.from.result c.args.inst c.from.ensures (omega (arith, c.ranges.inst)) in
    omega (arith, fit, c.requires.room, c.write_digits-second.ensures.start)

pub write_digits-requires : goal.write_digits-requires
write_digits-requires c =
    let fit = digits_fit c.from.result c.args.inst c.from.ensures (omega (arith, c.ranges.inst)) in
    let fit2 = digits_fit c.from-2.result c.args.depth c.from-2.ensures (omega (arith, c.ranges.depth)) in
    let size = length-set c.args.block.now (c.args.end - 1) 10 in
    let size2 = length-set c.write_digits-second.new.buf (c.write_digits-second.result - 1) 32 in (
      omega (arith, fit, fit2, c.requires.room, c.write_digits-second.ensures.start),
      omega (
        arith,
        size,
        size2,
        c.write_digits-second.auto.buf,
        c.write_digits-second.ensures.start,
        c.requires.within,
      ),
    )

pub returns-clause-line : goal.returns-clause-line
returns-clause-line c =
    let fit = digits_fit c.from.result c.args.inst c.from.ensures (omega (arith, c.ranges.inst)) in
    let size = length-set c.args.block.now (c.args.end - 1) 10 in
    line_put c.args.block.now c.write_digits-second.new.buf c.write_digits.new.buf c.args.end
    c.write_digits-second.result c.write_digits.result c.args.depth c.args.inst c.from-2.result c.from.result
    c.from-2.ensures c.from.ensures (omega (arith, c.requires.room)) c.requires.within
    (omega (arith, fit, c.requires.room, c.write_digits-second.ensures.start))
    (omega (arith, size, c.write_digits-second.auto.buf, c.write_digits-second.ensures.start, c.requires.within))
    c.write_digits-second.ensures.written c.write_digits.ensures.written

pub returns-clause-low : goal.returns-clause-low
returns-clause-low c =
    let fit = digits_fit c.from.result c.args.inst c.from.ensures (omega (arith, c.ranges.inst)) in
    let fit2 = digits_fit c.from-2.result c.args.depth c.from-2.ensures (omega (arith, c.ranges.depth)) in
    omega (arith, fit, fit2, c.requires.room, c.write_digits-second.ensures.start, c.write_digits.ensures.start)
