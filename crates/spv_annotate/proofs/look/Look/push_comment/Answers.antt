use Rattle.std.proofs.Common.{string_bytes, take}
use Rattle.std.specs.Prelude.{codes}
use Rattle.spv_annotate.specs.declared.linked.Quoting.TheVariants.{Commented}
use Rattle.spv_annotate.specs.Page.{linked}
use Rattle.spv_annotate.specs.inner.Numbers.{kept}
use Rattle.spv_annotate.proofs.Drafts.{between_drafted, settled}
use Rattle.spv_annotate.proofs.look.Look.push_comment.Goals as goal

pub push_remark-requires-clause-utf8 : goal.push_remark-requires-clause-utf8
push_remark-requires-clause-utf8 c = c.add_text-begin.ensures.added.utf8 c.requires.utf8

pub settle-requires-clause-utf8 : goal.settle-requires-clause-utf8
settle-requires-clause-utf8 c = c.add_text-added.ensures.added.utf8 c.in_ok-behind.ensures.utf8

pub returns : goal.returns
returns c =
    let html = linked (kept c.args.self.now.definitions.now) Commented c.args.text.now in
    let e = c.settle.ensures in
    settled c.settle.result _ _ _ _ _ _ _ e.high e.utf8 e.text
    (between_drafted (codes "<i>") html (codes "</i>") (string_bytes c.args.out.now)
    (string_bytes c.push_remark.new.out) (take c.args.at c.args.buffer.now)
    (take c.add_text-begin.result c.add_text-begin.new.buffer) (take c.in_ok-behind.behind c.push_remark.new.buffer)
    (take c.add_text-added.result c.add_text-added.new.buffer)
    c.add_text-begin.ensures.added.all c.in_ok-behind.ensures.text c.add_text-added.ensures.added.all)
