use Rattle.std.proofs.Common.{◌≡◌, ◌<◌, ℕ, ◌++◌, List, [], ◌∷◌, map, length, slice_get, refl, ap, ◌∙◌, arith}
use Rattle.serde_json.specs.View.{number_view}
use Rattle.serde_json.specs.declared.number.Number as whole
use Rattle.json_tree.specs.View.{Content, number}
use Rattle.json_tree.specs.inner.Stored.{content_of, numbered}
use Rattle.json_tree.specs.declared.nodes.Stored.{Stored}
use Rattle.json_tree.specs.declared.nodes.Stored.TheVariants.{Number}
use Rattle.json_tree.proofs.Stored.{one_more, kept, added}
use Rattle.json_tree.proofs.nodes.Nodes.push_number.Goals as goal

pub returns : goal.returns
returns c =
    let old = c.self.inside.numbers.items in
    let grown = c.in_ok-add-2.ensures in
    let stay = λ (i : ℕ) (l : i < length old). ap (λ (xs : List whole.Number). slice_get xs i) grown ∙ kept old c.args.number i l in
    let first = c.len-place.ensures in
    let at : c.len-place.result ≡ length old = omega arith in
    let here : numbered (slice_get c.add-2.new.list.items c.len-place.result) ≡ number (number_view c.args.number) =
    ap (λ (xs : List whole.Number). numbered (slice_get xs c.len-place.result)) grown ∙ ap (λ (i : ℕ). numbered (slice_get (old ++ c.args.number ∷ []) i)) at ∙ ap numbered (added old c.args.number) in
    let more = one_more c.self.inside.source.now old c.add-2.new.list.items c.self.inside.texts.items c.self.inside.texts.items stay (λ i l. refl) c.self.inside.stored.items (Number c.len-place.result) (number (number_view c.args.number)) c.self.invariant here in
    ap (λ (ss : List Stored). map (content_of c.self.inside.source.now c.add-2.new.list.items c.self.inside.texts.items) ss) c.in_ok-add-3.ensures ∙ more ∙ ap (λ (cs : List Content). cs ++ number (number_view c.args.number) ∷ []) c.self.view_is
