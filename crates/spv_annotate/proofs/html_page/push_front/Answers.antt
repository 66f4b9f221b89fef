use Rattle.std.proofs.Common.{string_bytes}
use Rattle.spv_printer.proofs.Texts.{on_pushed}
use Rattle.spv_annotate.specs.Html.{escaped}
use Rattle.spv_annotate.specs.declared.style.TheConstants.{LIST}
use Rattle.spv_annotate.proofs.Pages.{behind}
use Rattle.spv_annotate.proofs.html_page.push_front.Goals as goal

pub returns : goal.returns
returns c =
    let last = string_bytes c.push_str-5.new.self in
    on_pushed c.push_str-5.result _ last (string_bytes c.push_str-4.new.self) LIST.now c.push_str-5.ensures.bytes (λ e.
    behind (string_bytes c.args.out.now) _ _ (string_bytes c.push_str.new.self) last c.in_ok-push_str.ensures.bytes
    (behind (string_bytes c.push_str.new.self) (escaped c.args.title.now) _
    (string_bytes c.push_escaped.new.out) last c.in_ok-push_escaped.ensures
    (behind (string_bytes c.push_escaped.new.out) _ _
    (string_bytes c.push_str-2.new.self) last c.in_ok-push_str-2.ensures.bytes
    (behind (string_bytes c.push_str-2.new.self) (escaped c.args.title.now) _
    (string_bytes c.push_escaped-2.new.out) last c.in_ok-push_escaped-2.ensures
    (behind (string_bytes c.push_escaped-2.new.out) _ _
    (string_bytes c.push_str-3.new.self) last c.in_ok-push_str-3.ensures.bytes
    (behind (string_bytes c.push_str-3.new.self) c.args.told.now _
    (string_bytes c.push_str-4.new.self) last c.in_ok-push_str-4.ensures.bytes e))))))
