use Rattle.std.proofs.Common.{◌+◌, Some, drop, sym, ap, ◌∙◌}
use Rattle.serde_json.specs.Find.{as_object}
use Rattle.json_tree.specs.View.{view, members_view}
use Rattle.json_tree.specs.inner.Stored.{content_view}
use Rattle.json_tree.proofs.Contents.{shown, view_at, object_at, no_object}
use Rattle.json_tree.proofs.node.Node.members.Goals as goal

pub from-requires : goal.from-requires
from-requires c = object_at c.self.inside.nodes.now c.self.inside.place c.in-Object.count c.self.invariant.1 (c.content.ensures.content ∙ ap (λ k. Some (content_view k)) c.in-Object.is)

pub returns-in-Object : goal.returns-in-Object
returns-in-Object c =
    let seen = view_at c.self.inside.nodes.now c.self.inside.place (content_view c.content.result) c.self.invariant.1 c.content.ensures.content in
    let all = ap (λ d. as_object (view d)) (sym c.self.view_is) ∙ ap as_object seen ∙ ap (λ k. as_object (shown (content_view k) (drop (c.self.inside.place + 1) c.self.inside.nodes.now))) c.in-Object.is in
    ap (λ p. Some (members_view p)) c.from.ensures ∙ sym all

pub returns-in_default : goal.returns-in_default
returns-in_default c =
    let seen = view_at c.self.inside.nodes.now c.self.inside.place (content_view c.content.result) c.self.invariant.1 c.content.ensures.content in
    sym (ap (λ d. as_object (view d)) (sym c.self.view_is) ∙ ap as_object seen ∙ no_object c.content.result (drop (c.self.inside.place + 1) c.self.inside.nodes.now) c.in_default.not-Object)
