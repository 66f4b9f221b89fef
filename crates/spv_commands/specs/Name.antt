-- How the name of a file stands in a line. (Own.)
use Rattle.std.specs.Prelude.{◌∷◌, ◌++◌, ◌==◌, ℕ, List, [], codes, if◌then◌else◌}
use Rattle.spv_lines.specs.Plain.{escaped, is_control, is_late_control}

-- a byte that is a control character as `\xNN`, a backslash (92) as two, and any other byte as it is
abbrev pub shown_byte : ℕ → List ℕ
shown_byte b = if is_control b then escaped b else (if b == 92 then 92 ∷ 92 ∷ [] else b ∷ [])

-- a name without control characters: each byte of one as `\xNN`, and a backslash as two
abbrev pub shown_name : List ℕ → List ℕ
shown_name [] = []
shown_name (a ∷ []) = shown_byte a
shown_name (a ∷ b ∷ name) =
    if is_late_control a b then escaped a ++ (escaped b ++ shown_name name) else shown_byte a ++ shown_name (b ∷ name)

-- `NAME: `, with which what is written of a file begins
abbrev pub label : List ℕ → List ℕ
label name = shown_name name ++ codes ": "
