use Rattle.std.proofs.Common.{◌≡◌, ◌∙◌, ℕ, List, Some, length, option_map, slice_get, refl, sym, ap, arith}
use Rattle.std.proofs.lemmas.List.{length-map}
use Rattle.std.proofs.lemmas.Option.{slice_get-map, slice_get_read}
use Rattle.spv_table.specs.Span.{spanned}
use Rattle.spv_table.proofs.name_list_ref.Spanned.name.Goals as goal

pub returns-in-Some : goal.returns-in-Some
returns-in-Some c =
    let text = c.self.inside.text.now in
    let spans = c.self.inside.spans.now in
    let span = c.in-Some.span.now in
    let at : slice_get spans c.args.place ≡ Some span = slice_get_read spans (length spans) c.args.place span refl c.in-Some.ensures.lookup.3.0 c.in-Some.ensures.lookup.1 in
    ap (λ (ns : List (List ℕ)). slice_get ns c.args.place) (sym c.self.view_is) ∙ slice_get-map (spanned text) spans c.args.place ∙ ap (option_map (spanned text)) at ∙ ap Some (sym c.of.ensures)

pub returns-in-None : goal.returns-in-None
returns-in-None c =
    let spans = c.self.inside.spans.now in
    let long = length-map spans (spanned c.self.inside.text.now) in
    let view = ap (λ (ns : List (List ℕ)). length ns) c.self.view_is in
    absurd (omega (arith, long, view, c.requires, c.in-None.ensures.lookup))
