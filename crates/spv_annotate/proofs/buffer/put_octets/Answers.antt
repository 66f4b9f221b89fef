use Rattle.std.proofs.Common.{◌-◌, length, arith}
use Rattle.spv_printer.proofs.Pieces.{octets_put}
use Rattle.spv_annotate.proofs.buffer.put_octets.Goals as goal

pub returns-clause-text : goal.returns-clause-text
returns-clause-text c =
    rw c.copy_from_slice.ensures.after (octets_put c.args.buffer.now c.args.octets.now
    (c.args.end - length c.args.octets.now) c.args.end (omega arith) c.requires.within)
