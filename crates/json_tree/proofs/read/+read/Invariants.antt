use Rattle.std.proofs.Common.{◌≡◌, ℕ, ◌+◌, ◌*◌, ◌≤◌, List, ◌++◌, length, Some}
use Rattle.json.specs.Json.{items, members, value, parse_map}
use Rattle.serde_json.specs.Data.{Data, no_members}
use Rattle.serde_json.specs.Read.{of_items, of_members, converted}
use Rattle.json_tree.specs.View.{Content, paired, members_of}
use Rattle.json_tree.specs.inner.Run.{IsRun}
use Rattle.json_tree.proofs.Values.{Value}
use Rattle.json_tree.proofs.Runs.{datas, items_before}
use Rattle.json_tree.proofs.read.+read.Given as goal

abbrev pub decreases-read : goal.decreases-read
decreases-read l = 2 * l.depth

abbrev pub decreases-read_array : goal.decreases-read_array
decreases-read_array l = 2 * l.depth + 1

abbrev pub decreases-read_object : goal.decreases-read_object
decreases-read_object l = 2 * l.depth + 1

abbrev pub invariant-read_array-items : goal.invariant-read_array-items
invariant-read_array-items l =
    (own : List Content) × (vs : List Value) × (n : ℕ) × (l.nodes ≡ l.initial.nodes ++ own) × IsRun own vs × (length l.reader ≤ n)
    × (converted of_items (items (value l.depth) (length l.initial.reader) l.initial.reader) ≡ parse_map (items_before (datas vs)) (converted of_items (items (value l.depth) n l.reader)))
    × (length l.reader ≤ length l.initial.reader)

abbrev pub decreases-read_array-items : goal.decreases-read_array-items
decreases-read_array-items l = length l.reader

abbrev pub invariant-read_object-members : goal.invariant-read_object-members
invariant-read_object-members l =
    (own : List Content) × (vs : List Value) × (ms : List (List ℕ × Data)) × (n : ℕ) × (l.nodes ≡ l.initial.nodes ++ own) × IsRun own vs × (paired (datas vs) ≡ Some ms) × (length l.reader ≤ n)
    × (converted (λ js. of_members js no_members) (members (value l.depth) (length l.initial.reader) l.initial.reader) ≡ converted (λ js. of_members js (members_of ms)) (members (value l.depth) n l.reader))
    × (length l.reader ≤ length l.initial.reader)

abbrev pub decreases-read_object-members : goal.decreases-read_object-members
decreases-read_object-members l = length l.reader
