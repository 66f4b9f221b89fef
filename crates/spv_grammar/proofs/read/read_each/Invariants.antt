use Rattle.std.proofs.Common.{◌≡◌}
use Rattle.json_tree.specs.View.{items_view}
use Rattle.spv_grammar.specs.File.{each}
use Rattle.spv_grammar.proofs.Fronts.{with_front}
use Rattle.spv_grammar.proofs.read.read_each.Given as goal

abbrev pub invariant-loop-element : goal.invariant-loop-element
invariant-loop-element g l = each (g.T.Element.reading l.context) (items_view l.fn.elements) ≡ with_front l.found.items (each (g.T.Element.reading l.context) (items_view l.element-iterator))
