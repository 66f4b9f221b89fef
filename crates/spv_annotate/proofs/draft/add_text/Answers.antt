use Rattle.std.proofs.Common.{◌≤◌, length, arith}
use Rattle.spv_annotate.proofs.Drafts.{added_by, copied_text}
use Rattle.spv_annotate.proofs.draft.add_text.Goals as goal

pub returns-clause-added : goal.returns-clause-added
returns-clause-added c =
    let h : c.args.at ≤ length c.args.buffer.now = omega (arith, c.requires) in
    added_by c.args.text.now _ _ c.args.buffer.now _
    (rw c.copy_from_slice.ensures.after
    (copied_text c.args.buffer.now c.as_bytes-octets.result.now c.args.text.now _ c.args.at h
    c.as_bytes-octets.ensures.value)) c.utf8.text
