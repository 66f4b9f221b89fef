use Rattle.std.proofs.Common.{◌+◌, Some, drop, sym, ap, ◌∙◌}
use Rattle.serde_json.specs.Find.{as_array}
use Rattle.json_tree.specs.View.{view, items_view}
use Rattle.json_tree.specs.inner.Stored.{content_view}
use Rattle.json_tree.proofs.Contents.{shown, view_at, array_at, no_array}
use Rattle.json_tree.proofs.node.Node.items.Goals as goal

pub from-requires : goal.from-requires
from-requires c = array_at c.self.inside.nodes.now c.self.inside.place c.in-Array.count c.self.invariant.1 (c.content.ensures.content ∙ ap (λ k. Some (content_view k)) c.in-Array.is)

pub returns-in-Array : goal.returns-in-Array
returns-in-Array c =
    let seen = view_at c.self.inside.nodes.now c.self.inside.place (content_view c.content.result) c.self.invariant.1 c.content.ensures.content in
    let all = ap (λ d. as_array (view d)) (sym c.self.view_is) ∙ ap as_array seen ∙ ap (λ k. as_array (shown (content_view k) (drop (c.self.inside.place + 1) c.self.inside.nodes.now))) c.in-Array.is in
    ap (λ p. Some (items_view p)) c.from.ensures ∙ sym all

pub returns-in_default : goal.returns-in_default
returns-in_default c =
    let seen = view_at c.self.inside.nodes.now c.self.inside.place (content_view c.content.result) c.self.invariant.1 c.content.ensures.content in
    sym (ap (λ d. as_array (view d)) (sym c.self.view_is) ∙ ap as_array seen ∙ no_array c.content.result (drop (c.self.inside.place + 1) c.self.inside.nodes.now) c.in_default.not-Array)
