use Rattle.std.proofs.Common.{◌≡◌, ◌<◌, ℕ, ◌++◌, List, [], ◌∷◌, map, length, slice_get, Bor, refl, ap, ◌∙◌, arith}
use Rattle.json_tree.specs.View.{Content, string}
use Rattle.json_tree.specs.inner.Stored.{content_of, text_of}
use Rattle.json_tree.specs.declared.nodes.Stored.{Stored}
use Rattle.json_tree.specs.declared.nodes.Stored.TheVariants.{Far}
use Rattle.json_tree.proofs.Stored.{one_more, kept, added}
use Rattle.json_tree.proofs.nodes.Nodes.push_far.Goals as goal

pub returns : goal.returns
returns c =
    let old = c.self.inside.texts.items in
    let grown = c.in_ok-add.ensures in
    let stay = λ (i : ℕ) (l : i < length old). ap (λ (xs : List (Bor (List ℕ))). slice_get xs i) grown ∙ kept old c.args.text i l in
    let first = c.len-place.ensures in
    let at : c.len-place.result ≡ length old = omega arith in
    let here : text_of (slice_get c.add.new.list.items c.len-place.result) ≡ string c.args.text.now =
    ap (λ (xs : List (Bor (List ℕ))). text_of (slice_get xs c.len-place.result)) grown ∙ ap (λ (i : ℕ). text_of (slice_get (old ++ c.args.text ∷ []) i)) at ∙ ap text_of (added old c.args.text) in
    let more = one_more c.self.inside.source.now c.self.inside.numbers.items c.self.inside.numbers.items old c.add.new.list.items (λ i l. refl) stay c.self.inside.stored.items (Far c.len-place.result) (string c.args.text.now) c.self.invariant here in
    ap (λ (ss : List Stored). map (content_of c.self.inside.source.now c.self.inside.numbers.items c.add.new.list.items) ss) c.in_ok-add-2.ensures ∙ more ∙ ap (λ (cs : List Content). cs ++ string c.args.text.now ∷ []) c.self.view_is
