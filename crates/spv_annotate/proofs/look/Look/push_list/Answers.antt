use Rattle.std.proofs.Common.{◌++◌, ◌∙◌, ap, append_assoc, string_bytes}
use Rattle.std.specs.Prelude.{codes}
use Rattle.spv_printer.proofs.Texts.{on_pushed}
use Rattle.spv_annotate.specs.Page.{entry_link, summary_class}
use Rattle.spv_annotate.specs.inner.Look.{scene}
use Rattle.spv_annotate.proofs.Pages.{behind}
use Rattle.spv_annotate.proofs.look.Look.push_list.Goals as goal

pub returns : goal.returns
returns c =
    let S = scene c.args.self.now in
    let tag = summary_class S c.args.inst in
    let link = entry_link S c.args.inst in
    let end = codes "</summary>\n" in
    let one = string_bytes c.push_str.new.self in
    let two = string_bytes c.push_summary_class.new.out in
    let three = string_bytes c.push_entry.new.out in
    let last = string_bytes c.push_str-2.new.self in
    on_pushed c.push_str-2.result _ last three end c.push_str-2.ensures.bytes (λ e.
    behind (string_bytes c.args.out.now) (codes "</details>\n<details>\n<summary") _ one last
    c.in_ok-push_str.ensures.bytes
    (behind one (tag ++ codes ">") (link ++ end) two last c.in_ok-push_summary_class.ensures
    (behind two link end three last c.in_ok-push_entry.ensures e)
    ∙ ap (λ z. one ++ z) (append_assoc tag (codes ">") (link ++ end))))
