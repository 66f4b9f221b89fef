use Rattle.std.proofs.Common.{◌++◌, ◌∙◌, ℕ, List, ap, append-nil, flat_map, string_bytes, subst, sym}
use Rattle.spv_lines.specs.Text.{IsShownText}
use Rattle.spv_module.specs.Module.{plain_insts}
use Rattle.spv_annotate.specs.Document.{document}
use Rattle.spv_annotate.specs.Page.{page_of}
use Rattle.spv_annotate.specs.inner.Look.{scene}
use Rattle.spv_annotate.proofs.html_page.push_lines.Goals as goal

pub write_text-requires-clause-shown : goal.write_text-requires-clause-shown
write_text-requires-clause-shown c =
    let m = c.args.module.now in
    let G = c.args.table.now in (
      G,
      c.requires.spelled,
      subst (λ (t : List ℕ). IsShownText G m.header (plain_insts m) t) (sym c.as_str.ensures.value)
          c.in_ok-text.ensures,
    )

pub returns : goal.returns
returns c =
    let m = c.args.module.now in
    let G = c.args.table.now in
    let shown =
    subst (λ (t : List ℕ). IsShownText G m.header (plain_insts m) t) (sym c.as_str.ensures.value)
    c.in_ok-text.ensures in
    let a = c.in_ok-write_text.ensures in
    let lines = flat_map (page_of (scene c.args.look)) (document a.0) in (
      a.0,
      a.1 G c.requires.spelled shown,
      c.in_ok-finish.ensures ∙ (a.2.all ∙ ap (λ z. z ++ lines) (append-nil (string_bytes c.args.out))),
    )
