use Rattle.std.proofs.Common.{◌≡◌, map, take}
use Rattle.serde_json.specs.View.{view}
use Rattle.spv_grammar.specs.Tree.{operand_tree}
use Rattle.spv_builtin.proofs.tree.operands.Given as goal

abbrev pub invariant-loop-item : goal.invariant-loop-item
invariant-loop-item l = map view l.found.items ≡ map (operand_tree l.table) (take l.item-index l.items)
