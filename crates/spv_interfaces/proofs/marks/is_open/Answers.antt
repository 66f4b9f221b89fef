use Rattle.std.proofs.Common.{sym}
use Rattle.spv_interfaces.proofs.Bits.{open_bit}
use Rattle.spv_interfaces.proofs.Marking.{moved}
use Rattle.spv_interfaces.proofs.marks.is_open.Goals as goal

pub returns : goal.returns
returns c =
    let a = c.word_at.result in
    let b = c.word_at-2.result in
    let e = c.word_at.ensures in
    let f = c.word_at-2.ensures in
    let o = open_bit a b c.word_at.type_inv c.word_at-2.type_inv in (
      λ t. let r = o.0 t in (r.0, moved a _ r.0 e r.1, λ g. r.2 (moved _ b r.0 (sym f) g)),
      λ h. o.1 (h.0, moved _ a h.0 (sym e) h.1, λ g. h.2 (moved b _ h.0 f g)),
    )
