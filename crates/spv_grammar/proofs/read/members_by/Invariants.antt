use Rattle.std.proofs.Common.{◌≡◌, ℕ, List, ◌++◌, option_map, codes}
use Rattle.serde_json.specs.Data.{Data}
use Rattle.serde_json.specs.Find.{get_member}
use Rattle.json_tree.specs.View.{view, members_of, members_left}
use Rattle.spv_grammar.proofs.read.members_by.Given as goal

abbrev pub invariant-loop-key : goal.invariant-loop-key
invariant-loop-key l = record {
  done : List (List ℕ × Data);
  whole : members_left l.initial.key-iterator ≡ done ++ members_left l.key-iterator;
  name : option_map view l.found.name ≡ get_member l.name_key (members_of done);
  number : option_map view l.found.number ≡ get_member l.number_key (members_of done);
  operands : option_map view l.found.operands ≡ get_member l.operands_key (members_of done);
  capabilities : option_map view l.found.capabilities ≡ get_member (codes "capabilities") (members_of done);
}
