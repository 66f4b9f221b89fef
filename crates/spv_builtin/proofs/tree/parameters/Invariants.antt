use Rattle.std.proofs.Common.{◌≡◌, map, take}
use Rattle.serde_json.specs.View.{view}
use Rattle.spv_grammar.specs.Tree.{parameter_tree}
use Rattle.spv_builtin.proofs.tree.parameters.Given as goal

abbrev pub invariant-loop-kind : goal.invariant-loop-kind
invariant-loop-kind l = map view l.found.items ≡ map (parameter_tree l.table) (take l.kind-index l.kinds)
