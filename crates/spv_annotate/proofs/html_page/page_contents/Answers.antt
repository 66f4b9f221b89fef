use Rattle.std.proofs.Common.{◌++◌, ◌∙◌, ap, flat_map, map}
use Rattle.spv_module.specs.Module.{plain_inst}
use Rattle.spv_annotate.specs.Page.{beginnings, contents_of, page_front}
use Rattle.spv_annotate.specs.inner.Look.{scene}
use Rattle.spv_annotate.proofs.html_page.page_contents.Goals as goal

pub returns : goal.returns
returns c =
    let contents = flat_map (contents_of (scene c.args.look))
    (beginnings (map plain_inst c.args.look.insts.now) c.args.function) in
    c.in_ok-write_beginnings.ensures.all
    ∙ ap (λ z. z ++ contents) (c.in_ok-out.ensures
    ∙ ap (page_front c.args.title.now) (c.as_str.ensures.value ∙ c.in_ok-told.ensures))
