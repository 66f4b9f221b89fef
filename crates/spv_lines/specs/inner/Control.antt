-- The first control character of a text. (For the code alone.)
use Rattle.std.specs.Prelude.{◌≡◌, ◌<◌, ◌++◌, ℕ, List, [], ◌∷◌, drop, length, slice_index, take, if◌then◌else◌}
use Rattle.spv_lines.specs.Plain.{is_control, is_late_control, plain_of}

-- how many bytes the control character has that a text begins with: none where it begins with another character
abbrev pub control_size : List ℕ → ℕ
control_size [] = 0
control_size (a ∷ text) = if is_control a then 1 else (if is_late_control a (slice_index text 0) then 2 else 0)

-- before the place no character is one, and there is one of that many bytes
pub record IsFirstControl (bytes : List ℕ) (at : ℕ) : Type 0 where
  pub within : at < length bytes
  pub plain : plain_of bytes ≡ take at bytes ++ plain_of (drop at bytes)
  pub there : 0 < control_size (drop at bytes)
