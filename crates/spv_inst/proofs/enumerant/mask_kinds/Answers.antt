use Rattle.std.proofs.Common.{arith}
use Rattle.std.proofs.lemmas.Nat.Bits.{bit_at-trailing_zeros}
use Rattle.std.specs.Int.{w32}
use Rattle.spv_table.specs.Table.{kind_of}
use Rattle.spv_inst.specs.Reading.{enumerants_at}
use Rattle.spv_inst.proofs.Opened.{no_bit_kinds, one_bit_kinds}
use Rattle.spv_inst.proofs.enumerant.mask_kinds.Goals as goal

pub returns-then-mask-eq0 : goal.returns-then-mask-eq0
returns-then-mask-eq0 c = rw c.if-mask-eq0.true (no_bit_kinds (enumerants_at (kind_of c.args.table.now c.args.kind)))

pub returns-then-position-mask : goal.returns-then-position-mask
returns-then-position-mask c =
    let fits = c.ranges.mask.fits in
    let some = c.if-mask-eq0.false in
    let low = bit_at-trailing_zeros w32 c.args.mask (omega arith) fits in
    one_bit_kinds (enumerants_at (kind_of c.args.table.now c.args.kind)) c.args.mask _ c.value_kinds.result low.0
    c.if-position-mask.true c.value_kinds.ensures
