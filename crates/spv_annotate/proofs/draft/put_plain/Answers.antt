use Rattle.std.proofs.Common.{◌≤◌, arith, length, refl}
use Rattle.spv_annotate.proofs.Drafts.{copied_text}
use Rattle.spv_annotate.proofs.draft.put_plain.Goals as goal

pub returns : goal.returns
returns c =
    let r = c.requires in
    let h : c.args.at ≤ length c.args.buffer.now = omega (arith, r) in
    rw c.copy_from_slice.ensures.after
    (copied_text c.args.buffer.now c.args.octets.now c.args.octets.now _ c.args.at h refl)
