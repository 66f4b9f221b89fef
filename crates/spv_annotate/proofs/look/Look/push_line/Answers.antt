use Rattle.std.proofs.Common.{◌≡◌, ◌++◌, ◌∙◌, ap, map, string_bytes, take}
use Rattle.std.specs.Prelude.{codes, decimal}
use Rattle.spv_module.specs.Module.{plain_inst}
use Rattle.spv_module.specs.Operand.{result_in}
use Rattle.spv_annotate.specs.declared.linked.Quoting.TheVariants.{Outside}
use Rattle.spv_annotate.specs.Module.{inst_at}
use Rattle.spv_annotate.specs.Page.{headed, line_class, linked, use_links}
use Rattle.spv_annotate.specs.inner.Draft.{heading_begin, heading_end}
use Rattle.spv_annotate.specs.inner.Look.{scene}
use Rattle.spv_annotate.specs.inner.Numbers.{kept}
use Rattle.spv_annotate.proofs.Drafts.{headed_parts, line_drafted, opening_apart, settled}
use Rattle.spv_annotate.proofs.look.Look.push_line.Goals as goal

pub push_drafted-requires-clause-utf8 : goal.push_drafted-requires-clause-utf8
push_drafted-requires-clause-utf8 c =
    c.add_heading-begin.ensures.added.utf8 (c.add_opening-opened.ensures.added.utf8 c.requires.utf8)

pub settle-requires-clause-utf8 : goal.settle-requires-clause-utf8
settle-requires-clause-utf8 c =
    c.add_uses-added.ensures.added.utf8 (c.add_heading_end-ended.ensures.added.utf8 c.in_ok-behind.ensures.utf8)

pub returns : goal.returns
returns c =
    let S = scene c.args.self.now in
    let n = c.args.inst in
    let i = inst_at (map plain_inst c.args.self.now.insts.now) n in
    let out = string_bytes c.args.out.now in
    let old = take c.args.at c.args.buffer.now in
    let one = string_bytes c.push_drafted.new.out in
    let html = linked (kept c.args.self.now.definitions.now) Outside c.args.text.now in
    let opening = codes "<div id=" ++ (decimal n ++ (line_class S n ++ codes ">")) in
    let code = c.opcode-opcode.result in
    let uses = use_links S n (result_in i.operands) in
    let e = c.settle.ensures in
    let h : (heading_begin code ++ (html ++ heading_end code)) ++ uses ≡ headed i.opcode html ++ uses =
    ap (λ z. z ++ uses) (headed_parts code html ∙ ap (λ z. headed z html) c.opcode-opcode.ensures) in
    settled c.settle.result _ _ _ _ _ _ _ e.high e.utf8 e.text
    (line_drafted opening (heading_begin code) html (heading_end code) uses out one old
    (take c.add_opening-opened.result c.add_opening-opened.new.buffer)
    (take c.add_heading-begin.result c.add_heading-begin.new.buffer)
    (take c.in_ok-behind.behind c.push_drafted.new.buffer)
    (take c.add_heading_end-ended.result c.add_heading_end-ended.new.buffer)
    (take c.add_uses-added.result c.add_uses-added.new.buffer)
    c.add_opening-opened.ensures.added.all c.add_heading-begin.ensures.added.all c.in_ok-behind.ensures.text
    c.add_heading_end-ended.ensures.added.all c.add_uses-added.ensures.added.all
    ∙ (ap (λ z. (out ++ old) ++ (opening ++ z)) h
    ∙ ap (λ z. (out ++ old) ++ z) (opening_apart (codes "<div id=") (decimal n) (line_class S n)
    (headed i.opcode html ++ uses))))
