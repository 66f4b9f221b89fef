use Rattle.std.proofs.Common.{◌≡◌, ◌++◌, OnOk, map, string_bytes, subst, sym}
use Rattle.spv_module.specs.Operand.{PlainInst}
use Rattle.spv_module.specs.Module.{plain_inst}
use Rattle.spv_annotate.specs.Notes.{notes}
use Rattle.spv_annotate.specs.inner.Values.{value_in}
use Rattle.spv_annotate.proofs.Places.{inst_read}
use Rattle.spv_annotate.proofs.comment.push_notes_at.Goals as goal

pub returns : goal.returns
returns c =
    let is = map plain_inst c.args.insts.now in
    let e = inst_read c.args.insts.now c.args.at c.index-insts-at.result c.requires.within c.index-insts-at.is in
    subst (λ (i : PlainInst). OnOk c.push_notes.result
    (string_bytes c.push_notes.new.out ≡ string_bytes c.args.out.now
    ++ notes is (value_in c.args.known.now.values c.args.at) c.args.at i))
    (sym e) c.push_notes.ensures
