-- What a line of the table of versions tells. (Own.) Lines count from 0.
use Rattle.std.specs.Prelude.{◌++◌, ℕ, List, [], Option, codes, decimal, map, option_and_then, option_map}
use Rattle.std.specs.Prelude.{slice_get, unwrap_or}
use Rattle.spv_versions.specs.Table.{Line, Text, lines}

-- the first version that has what it is of, by its minor number, if one has
abbrev pub first_in : Line → Option ℕ
first_in l = l.3

abbrev pub first_version : ℕ → Option ℕ
first_version line = option_and_then first_in (slice_get lines line)

-- as `1.4`
abbrev pub since_text : ℕ → List ℕ
since_text minor = codes "1." ++ decimal minor

-- the names of the extensions that have it
abbrev pub text_of : Text → List ℕ
text_of name = name.now

abbrev pub names_in : Line → List (List ℕ)
names_in l = map text_of l.4.now

abbrev pub extensions_of : ℕ → List (List ℕ)
extensions_of line = unwrap_or (option_map names_in (slice_get lines line)) []
