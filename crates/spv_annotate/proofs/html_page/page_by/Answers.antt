use Rattle.std.proofs.Common.{◌≡◌, ◌++◌, ◌∙◌, ap, flat_map, string_bytes, subst, sym}
use Rattle.std.specs.Prelude.{option_and_then}
use Rattle.spv_layout.specs.Place.{IsShort}
use Rattle.spv_module.specs.Module.{plain_insts}
use Rattle.spv_annotate.specs.declared.style.TheConstants.{END, MIDDLE}
use Rattle.spv_annotate.specs.Document.{document}
use Rattle.spv_annotate.specs.Module.{function_of}
use Rattle.spv_annotate.specs.Page.{beginnings, contents_of, notice, page_front, page_of}
use Rattle.spv_annotate.specs.inner.Look.{scene}
use Rattle.spv_annotate.proofs.Pages.{few, whole}
use Rattle.spv_annotate.proofs.html_page.page_by.Goals as goal

pub page_contents-requires-clause-faulty : goal.page_contents-requires-clause-faulty
page_contents-requires-clause-faulty c =
    c.requires.known.faulty ∙ ap (λ is. option_and_then (λ f. function_of is f.inst) c.args.finding)
    (sym c.requires.known.insts)

pub page_contents-requires-clause-few : goal.page_contents-requires-clause-few
page_contents-requires-clause-few c =
    few c.args.look.insts.now (subst IsShort (sym c.requires.known.insts) c.requires.words)

pub returns : goal.returns
returns c =
    let m = c.args.module.now in
    let f = page_front c.args.title.now (notice (plain_insts m) c.args.function c.args.finding) in
    let S = scene c.args.look in
    let a = c.in_ok-out.ensures in
    let contents = flat_map (contents_of S) (beginnings (plain_insts m) c.args.function) in
    let one : string_bytes c.in_ok-front.front ≡ f ++ contents =
    c.in_ok-front.ensures ∙ ap (λ z. page_front c.args.title.now (notice z c.args.function c.args.finding)
    ++ flat_map (contents_of S) (beginnings z c.args.function)) c.requires.known.insts in
    record {
      subject = a.0;
      scene = S;
      of = a.1;
      known = c.requires.known;
      all = whole f contents MIDDLE.now (flat_map (page_of S) (document a.0)) END.now
          (string_bytes c.in_ok-front.front) (string_bytes c.push_str.new.self) (string_bytes c.in_ok-out.out)
          (string_bytes c.push_str-2.new.self)
          one c.in_ok-push_str.ensures.bytes a.2 c.in_ok-push_str-2.ensures.bytes;
    }
