use Rattle.std.proofs.Common.{arith}
use Rattle.spv_printer.proofs.Digits.{fits_room}
use Rattle.spv_annotate.proofs.Buffers.{room_left}
use Rattle.spv_annotate.proofs.buffer.put_number.Goals as goal

pub write_digits-requires : goal.write_digits-requires
write_digits-requires c =
    (fits_room c.args.number c.from.result c.args.end c.from.ensures (omega arith) (omega arith), c.requires.within)

pub returns-clause-low : goal.returns-clause-low
returns-clause-low c =
    room_left c.args.number c.from.result c.write_digits.result c.args.end c.from.ensures
    (omega arith) c.write_digits.ensures.start

pub returns-clause-size : goal.returns-clause-size
returns-clause-size c = rw (← c.from.ensures) c.write_digits.ensures.start

pub returns-clause-text : goal.returns-clause-text
returns-clause-text c = rw (← c.from.ensures) c.write_digits.ensures.written
