use Rattle.std.proofs.Common.{◌≡◌}
use Rattle.serde_json.specs.Find.{get_item}
use Rattle.json_tree.specs.View.{items_view}
use Rattle.spv_grammar.proofs.steps.item.Given as goal

abbrev pub invariant-loop-element : goal.invariant-loop-element
invariant-loop-element l = get_item l.left (items_view l.element-iterator) ≡ get_item l.fn.number (items_view l.fn.items)
