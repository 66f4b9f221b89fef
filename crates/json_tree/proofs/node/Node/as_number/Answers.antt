use Rattle.std.proofs.Common.{◌+◌, drop, sym, ap, ◌∙◌}
use Rattle.serde_json.specs.Find.{as_number}
use Rattle.json_tree.specs.View.{view}
use Rattle.json_tree.specs.inner.Stored.{content_view}
use Rattle.json_tree.proofs.Contents.{shown, view_at, no_number}
use Rattle.json_tree.proofs.node.Node.as_number.Goals as goal

pub returns-in-Number : goal.returns-in-Number
returns-in-Number c =
    let seen = view_at c.self.inside.nodes.now c.self.inside.place (content_view c.content.result) c.self.invariant.1 c.content.ensures.content in
    sym (ap (λ d. as_number (view d)) (sym c.self.view_is) ∙ ap as_number seen ∙ ap (λ k. as_number (shown (content_view k) (drop (c.self.inside.place + 1) c.self.inside.nodes.now))) c.in-Number.is)

pub returns-in_default : goal.returns-in_default
returns-in_default c =
    let seen = view_at c.self.inside.nodes.now c.self.inside.place (content_view c.content.result) c.self.invariant.1 c.content.ensures.content in
    sym (ap (λ d. as_number (view d)) (sym c.self.view_is) ∙ ap as_number seen ∙ no_number c.content.result (drop (c.self.inside.place + 1) c.self.inside.nodes.now) c.in_default.not-Number)
