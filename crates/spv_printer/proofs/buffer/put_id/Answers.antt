use Rattle.std.proofs.Common.{arith}
use Rattle.spv_printer.proofs.Digits.{fits_room, marks_room}
use Rattle.spv_printer.proofs.Pieces.{id_put}
use Rattle.spv_printer.proofs.buffer.put_id.Goals as goal

pub write_digits-start-requires : goal.write_digits-start-requires
write_digits-start-requires c =
    (fits_room c.args.id c.from.result c.args.end c.from.ensures (omega arith) (omega arith), c.requires.within)

pub overflow_sub-buffer : goal.overflow_sub-buffer
overflow_sub-buffer c =
    let r = marks_room c.args.id c.from.result c.write_digits-start.result c.args.end c.from.ensures (omega arith)
    (omega arith) c.write_digits-start.ensures.start in omega arith

pub overflow_sub-buffer-2 : goal.overflow_sub-buffer-2
overflow_sub-buffer-2 c =
    let r = marks_room c.args.id c.from.result c.write_digits-start.result c.args.end c.from.ensures (omega arith)
    (omega arith) c.write_digits-start.ensures.start in omega arith

pub overflow_sub-result : goal.overflow_sub-result
overflow_sub-result c =
    let r = marks_room c.args.id c.from.result c.write_digits-start.result c.args.end c.from.ensures (omega arith)
    (omega arith) c.write_digits-start.ensures.start in omega arith

pub returns-clause-text : goal.returns-clause-text
returns-clause-text c =
    id_put c.args.buffer.now c.write_digits-start.new.buf c.args.id c.from.result c.write_digits-start.result c.args.end
    c.write_digits-start.auto.buf c.requires.within c.requires.room c.from.ensures (omega arith)
    c.write_digits-start.ensures.start c.write_digits-start.ensures.written
