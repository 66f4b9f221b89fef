use Rattle.std.proofs.Common.{◌≡◌, ℕ, List, ◌++◌, option_map}
use Rattle.serde_json.specs.Data.{Data}
use Rattle.serde_json.specs.Find.{get_member}
use Rattle.json_tree.specs.View.{view, members_of, members_left}
use Rattle.json_tree.proofs.node.last_named.Given as goal

abbrev pub invariant-loop-key : goal.invariant-loop-key
invariant-loop-key l =
    (done : List (List ℕ × Data)) × (members_left l.fn.members ≡ done ++ members_left l.key-iterator) × (option_map view l.found ≡ get_member l.name (members_of done))
