use Rattle.std.proofs.Common.{◌≡◌, map, take}
use Rattle.serde_json.specs.View.{view}
use Rattle.spv_grammar.specs.Tree.{kind_tree}
use Rattle.spv_builtin.proofs.tree.kinds.Given as goal

abbrev pub invariant-loop-place : goal.invariant-loop-place
invariant-loop-place l = map view l.found.items ≡ map (kind_tree l.table) (take l.place l.sorts)
