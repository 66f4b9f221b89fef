use Rattle.std.proofs.Common.{◌≡◌, ◌-◌, List, map, length, slice_set, sym, ap, ◌∙◌, arith}
use Rattle.std.proofs.lemmas.List.{map-set, length-map}
use Rattle.json_tree.specs.View.{Content, array}
use Rattle.json_tree.specs.inner.Stored.{content_of}
use Rattle.json_tree.specs.declared.nodes.Stored.TheVariants.{Array}
use Rattle.json_tree.proofs.nodes.Nodes.close_array.Goals as goal

pub returns : goal.returns
returns c =
    let seen = content_of c.self.inside.source.now c.self.inside.numbers.items c.self.inside.texts.items in
    let all : map seen c.self.inside.stored.items ≡ c.args.self.now = c.self.view_is in
    let long : length c.self.inside.stored.items ≡ length c.args.self.now = sym (length-map c.self.inside.stored.items seen) ∙ ap length all in
    let stored = c.len.ensures in
    let count : c.len.result - c.args.place - 1 ≡ length c.args.self.now - c.args.place - 1 = omega arith in
    map-set seen c.self.inside.stored.items c.args.place (Array (c.len.result - c.args.place - 1)) ∙ ap (λ (xs : List Content). slice_set xs c.args.place (array (c.len.result - c.args.place - 1))) all
    ∙ ap (λ n. slice_set c.args.self.now c.args.place (array n)) count
