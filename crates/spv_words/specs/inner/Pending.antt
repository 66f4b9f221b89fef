-- What a source gives that may read as another version. (For the code alone.)
use Rattle.std.specs.Prelude.{List, ℕ, Bool, Option, option_map, if◌then◌else◌}
use Rattle.spv_words.specs.Version.{as_1_6}

-- known bytes, whose version is still to be replaced or not
abbrev pub version_due : Bool → Option (List ℕ) → Option (List ℕ)
version_due is_due known = if is_due then option_map as_1_6 known else known
