-- Where a line is cut before ids. (For the code alone.)
use Rattle.std.specs.Prelude.{◌==◌, ◌||◌, ℕ, suc, List, [], ◌∷◌, Bool, not, if◌then◌else◌}
use Rattle.spv_annotate.specs.declared.linked.Quoting.{Quoting}
use Rattle.spv_annotate.specs.declared.linked.Quoting.TheVariants.{Outside, Commented}
use Rattle.spv_annotate.specs.Html.{is_marked}
use Rattle.spv_annotate.specs.Quoted.{after_byte, begins_id}

-- where a reader of the line stands at its front
abbrev pub base : Quoting → Quoting
base Commented = Commented
base _ = Outside

-- how many bytes stand before the next id
abbrev pub until_id : Quoting → List ℕ → ℕ
until_id q [] = 0
until_id q (b ∷ line) = if begins_id q b then 0 else suc (until_id (after_byte q b) line)

-- how many bytes the first part has: up to the next id behind the first byte
abbrev pub part_len : Quoting → List ℕ → ℕ
part_len q [] = 0
part_len q (b ∷ line) = suc (until_id (after_byte q b) line)

-- does a byte neither begin an id nor a quote
abbrev pub is_steady : ℕ → Bool
is_steady b = not (b == 37 || b == 34)

-- does a byte of a comment begin no id, and stand in HTML for itself
abbrev pub is_bare_byte : ℕ → Bool
is_bare_byte b = not (b == 37 || is_marked b)
