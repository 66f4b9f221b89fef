-- The minor number of the version that the text of a module tells.
use Rattle.std.specs.Prelude.{ℕ, List, Bool, Option, Some, None, option_map, slice_index, codes, nat_eq, nat_le}
use Rattle.std.specs.Prelude.{◌+◌, ◌-◌, ◌&&◌, if◌then◌else◌}
use Rattle.std.specs.List.{starts_with}
use Rattle.spv_scope.specs.Minor.{put_at}

-- The text begins with the first two lines of one of a module of version 1.0 to 1.6: its character 22 is the digit of
-- the minor number. [own]
abbrev pub has_heading : List ℕ → Bool
has_heading text =
    starts_with nat_eq text (codes "; SPIR-V\n; Version: 1.") && nat_le 48 (slice_index text 22)
    && nat_le (slice_index text 22) 54 && nat_eq (slice_index text 23) 10

-- The place of that digit. [own]
abbrev pub digit_place : List ℕ → Option ℕ
digit_place text = if has_heading text then Some 22 else None

-- The minor version number that a text tells. [own]
abbrev pub text_minor : List ℕ → Option ℕ
text_minor text = option_map (λ at. slice_index text at - 48) (digit_place text)

-- Such a text with another minor version number, of 0 to 6; any other text as it is. [own]
abbrev pub with_text_minor : ℕ → List ℕ → List ℕ
with_text_minor minor text = if nat_le minor 6 then put_at (digit_place text) (48 + minor) text else text
