use Rattle.std.proofs.Common.{◌≡◌, map, take}
use Rattle.serde_json.specs.View.{view}
use Rattle.spv_grammar.specs.Tree.{enumerant_tree}
use Rattle.spv_builtin.proofs.tree.put_enumerants.Given as goal

abbrev pub invariant-loop-place : goal.invariant-loop-place
invariant-loop-place l = map view l.found.items ≡ map (enumerant_tree l.table l.category) (take l.place l.enumerants)
