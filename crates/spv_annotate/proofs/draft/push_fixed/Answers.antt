use Rattle.std.proofs.Common.{string_bytes}
use Rattle.spv_annotate.proofs.Drafts.{added_apart, settled}
use Rattle.spv_annotate.proofs.draft.push_fixed.Goals as goal

pub settle-requires-clause-utf8 : goal.settle-requires-clause-utf8
settle-requires-clause-utf8 c = c.add_text-added.ensures.added.utf8 c.requires.utf8

pub returns : goal.returns
returns c =
    let e = c.settle.ensures in
    settled c.settle.result c.args.text.now _ _ _ _ _ _ e.high e.utf8 e.text
    (added_apart c.args.text.now (string_bytes c.args.out.now) c.args.at c.add_text-added.result c.args.buffer.now _
    c.add_text-added.ensures.added)
