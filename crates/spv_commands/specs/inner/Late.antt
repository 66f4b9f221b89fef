-- Where a control character of two octets stands in a name. (For the code alone.)
use Rattle.std.specs.Prelude.{◌≡◌, ◌<◌, ◌≤◌, ◌+◌, ◌⊎◌, ℕ, List, false, get_or, length, true}
use Rattle.spv_lines.specs.Plain.{is_late_control}

-- one stands at the place, or none does
abbrev pub IsLate : List ℕ → ℕ → Type 0
IsLate name at = (at + 1 < length name) × (is_late_control (get_or name at 0) (get_or name (at + 1) 0) ≡ true)

abbrev pub IsOther : List ℕ → ℕ → Type 0
IsOther name at = (length name ≤ at + 1) ⊎ (is_late_control (get_or name at 0) (get_or name (at + 1) 0) ≡ false)
