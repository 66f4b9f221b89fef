use Rattle.std.proofs.Common.{◌++◌, ◌∙◌, ap}
use Rattle.spv_lines.specs.Plain.{plain_of}
use Rattle.spv_annotate.specs.Html.{escaped}
use Rattle.spv_annotate.specs.Page.{front_of}
use Rattle.spv_annotate.proofs.html_page.page_front.Goals as goal

pub returns : goal.returns
returns c =
    let told = c.args.told.now in
    c.in_ok-push_front.ensures ∙ (ap (λ z. z ++ front_of (escaped c.as_str.result.now) told) c.in_ok-out.ensures.bytes
    ∙ ap (λ z. front_of (escaped z) told) (c.as_str.ensures.value
    ∙ (c.in_ok-push_plain.ensures ∙ ap (λ z. z ++ plain_of c.args.title.now) c.new-plain.ensures.bytes)))
