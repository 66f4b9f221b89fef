use Rattle.std.proofs.Common.{◌<◌, arith, length}
use Rattle.spv_printer.proofs.Labels.{name_copied, name_utf8}
use Rattle.spv_printer.proofs.buffer.add_name.Goals as goal

pub returns : goal.returns
returns c =
    let m = c.if-count-gt64.false in
    let r = c.requires in
    let h : c.args.at < length c.args.buffer.now = omega arith in
    record {
      low = omega arith;
      high = omega arith;
      text = rw c.copy_from_slice.ensures.after
          (name_copied c.args.buffer.now c.as_bytes-octets.result.now c.args.name.now _ c.args.at h
          c.as_bytes-octets.ensures.value);
      utf8 = name_utf8 c.args.name.now c.utf8.name;
    }
