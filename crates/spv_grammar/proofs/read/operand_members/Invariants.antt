use Rattle.std.proofs.Common.{◌≡◌, ℕ, List, ◌++◌, option_map, codes}
use Rattle.serde_json.specs.Data.{Data}
use Rattle.serde_json.specs.Find.{get_member}
use Rattle.json_tree.specs.View.{view, members_of, members_left}
use Rattle.spv_grammar.proofs.read.operand_members.Given as goal

abbrev pub invariant-loop-key : goal.invariant-loop-key
invariant-loop-key l = record {
  done : List (List ℕ × Data);
  whole : members_left l.initial.key-iterator ≡ done ++ members_left l.key-iterator;
  kind : option_map view l.found.kind ≡ get_member (codes "kind") (members_of done);
  quantifier : option_map view l.found.quantifier ≡ get_member (codes "quantifier") (members_of done);
}
