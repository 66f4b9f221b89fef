use Rattle.std.proofs.Common.{◌≡◌, ◌+◌, [], ◌∷◌, ◌++◌, length, map, take, sym, ap, ◌∙◌, arith}
use Rattle.std.proofs.lemmas.Grind.{common_steps}
use Rattle.std.proofs.lemmas.List.{map-append, take_more}
use Rattle.spv_table.proofs.Joined.{joined_more}
use Rattle.spv_table.proofs.listed.join.Goals as goal

pub loop-element-preserved : goal.loop-element-preserved
loop-element-preserved g c =
    let name = g.T.Named.name in
    let xs = c.args.elements.now in
    let i = c.loop-element.element-index in
    let x = c.element-item.result in
    let front = map name (take i xs) in
    let n = c.name.result.now in
    let names : map name (take (i + 1) xs) ≡ front ++ n ∷ [] =
    ap (map name) (take_more xs i x (omega arith) ∙ ap (λ y. take i xs ++ y ∷ []) (sym c.element-item.is)) ∙ map-append name (take i xs) (x ∷ []) ∙ ap (λ m. front ++ m ∷ []) (sym c.name.ensures) in
    let text : c.push_str.new.self.bytes.items ≡ c.loop-element.text.bytes.items ++ n = grind (arith, common_steps) in
    let long : c.in_ok-length_of.field-0 ≡ length c.push_str.new.self.bytes.items = grind (arith, common_steps) in
    let ends : c.push.new.self.items ≡ c.loop-element.ends.items ++ c.in_ok-length_of.field-0 ∷ [] = grind (arith, common_steps) in
    joined_more front _ c.loop-element.text.bytes.items _ n c.loop-element.ends.items _ _ names text long ends c.name.utf8 c.loop-element.invariant
