use Rattle.std.proofs.Common.{◌≡◌, ℕ, List, ◌++◌, take, map, Some}
use Rattle.serde_json.specs.Data.{Data}
use Rattle.serde_json.specs.View.{view as value_view}
use Rattle.serde_json.specs.View.{members_view as entries_view}
use Rattle.serde_json.proofs.Views.{Entry}
use Rattle.json_tree.specs.View.{Content, paired, members_of}
use Rattle.json_tree.specs.inner.Run.{IsRun}
use Rattle.json_tree.proofs.Values.{Value}
use Rattle.json_tree.proofs.Runs.{datas}
use Rattle.json_tree.proofs.of.+of.Given as goal

abbrev pub invariant-of_items-loop-item : goal.invariant-of_items-loop-item
invariant-of_items-loop-item l = (own : List Content) × (vs : List Value) × (l.nodes ≡ l.initial.nodes ++ own) × IsRun own vs × (datas vs ≡ map value_view (take l.item-index l.item-items))

abbrev pub invariant-of_members-loop-key : goal.invariant-of_members-loop-key
invariant-of_members-loop-key l =
    (own : List Content) × (vs : List Value) × (ms : List (List ℕ × Data)) × (done : List Entry) × (l.nodes ≡ l.initial.nodes ++ own) × IsRun own vs × (paired (datas vs) ≡ Some ms) × (l.members.entries ≡ done ++ l.key-iterator)
    × (members_of ms ≡ entries_view done)
