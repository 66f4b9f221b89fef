-- Ids that were seen. (For the code alone.)
use Rattle.std.specs.Prelude.{◌||◌, ℕ, List, [], Bool, if◌then◌else◌, nat_eq, take}
use Rattle.std.specs.List.{list_any}
use Rattle.std.specs.Ordering.{nat_cmp}
use Rattle.std.specs.BTreeSet.{contains}
use Rattle.spv_annotate.specs.declared.seen.Seen.{Seen}

-- was an id seen
abbrev pub is_seen : Seen → ℕ → Bool
is_seen seen x = list_any (nat_eq x) (take seen.count seen.few) || contains nat_cmp seen.more x

-- what is told of an id, but for one that was seen
abbrev pub if_unseen : (ℕ → List ℕ) → Seen → ℕ → List ℕ
if_unseen told seen x = if is_seen seen x then [] else told x
