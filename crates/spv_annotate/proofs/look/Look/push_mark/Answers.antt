use Rattle.std.proofs.Common.{◌++◌, ◌∙◌, ap, string_bytes, take}
use Rattle.std.specs.Prelude.{codes}
use Rattle.spv_annotate.specs.declared.linked.Quoting.TheVariants.{Commented}
use Rattle.spv_annotate.specs.Page.{linked}
use Rattle.spv_annotate.specs.inner.Numbers.{kept}
use Rattle.spv_annotate.proofs.Drafts.{drafted_at_once}
use Rattle.spv_annotate.proofs.Pages.{behind}
use Rattle.spv_annotate.proofs.look.Look.push_mark.Goals as goal

pub returns : goal.returns
returns c =
    let l = linked (kept c.args.self.now.definitions.now) Commented c.args.text.now in
    let t = codes "<div class=fault>" in
    let one = string_bytes c.args.out.now ++ take c.args.at c.args.buffer.now in
    drafted_at_once (t ++ l) (string_bytes c.args.out.now) c.args.at c.args.buffer.now
    (string_bytes c.push_linked.new.out) c.args.buffer.now
    (behind one t l (string_bytes c.push_str.new.self) (string_bytes c.push_linked.new.out)
    (c.in_ok-push_str.ensures.bytes ∙ ap (λ z. z ++ t) c.in_ok-push_draft.ensures) c.in_ok-push_linked.ensures)
