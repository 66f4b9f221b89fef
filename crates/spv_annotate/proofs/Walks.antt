-- The ids of a walk, kept one after another.
use Rattle.std.proofs.lemmas.Grind.{common_steps}
use Rattle.std.proofs.Common.{◌≡◌, ◌<◌, ◌+◌, ◌||◌, ℕ, List, Option, Some, Bool, nat_eq, is_some, length, drop, arith}
use Rattle.std.specs.Prelude.{if◌then◌else◌, slice_index}
use Rattle.std.specs.List.{list_any}

-- one id more is kept
pub id_more : (x : ℕ) (ids : List ℕ) (k : ℕ) (old new : Option ℕ) (all : Bool) → k < length ids
    → new ≡ (if nat_eq (slice_index ids k) x then Some 0 else old)
    → (list_any (nat_eq x) (drop k ids) || is_some old) ≡ all
    → (list_any (nat_eq x) (drop (k + 1) ids) || is_some new) ≡ all
id_more x ids k old new all l e f = grind (arith, common_steps)
