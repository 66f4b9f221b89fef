-- The lines of a text. (For the code alone.)
use Rattle.std.specs.Prelude.{◌++◌, ℕ, List, codes}

-- one, after four spaces
abbrev pub indented_line : List ℕ → List ℕ
indented_line line = codes "    " ++ line ++ codes "\n"
