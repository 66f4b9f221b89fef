use Rattle.std.proofs.Common.{◌≡◌, ℕ, map, take}
use Rattle.serde_json.specs.Data.{string}
use Rattle.serde_json.specs.View.{view}
use Rattle.spv_grammar.specs.Tree.{kind_name}
use Rattle.spv_builtin.proofs.tree.put_bases.Given as goal

abbrev pub invariant-loop-kind : goal.invariant-loop-kind
invariant-loop-kind l = map view l.found.items ≡ map (λ (kind : ℕ). string (kind_name l.table kind)) (take l.kind-index l.bases)
