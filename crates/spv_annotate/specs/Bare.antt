-- A text without its comments, the spaces before them and its empty lines. (Own.)
use Rattle.std.specs.Prelude.{◌++◌, ◌&&◌, ℕ, List, [], ◌∷◌, Option, Some, None, Bool, true, false, nat_eq}
use Rattle.std.specs.Prelude.{if◌then◌else◌}
use Rattle.std.specs.Prelude.{drop, filter, map, take}
use Rattle.std.specs.Prelude.{length}
use Rattle.std.specs.List.{range_with_len}
use Rattle.spv_lines.specs.Text.{ended, lines_of}
use Rattle.spv_lines.specs.Plain.{plain_of}
use Rattle.spv_annotate.specs.declared.finding.Finding.{Finding}
use Rattle.spv_annotate.specs.Document.{Subject, is_of, line_of}

-- where in a line an octet stands: outside of quotes, within them, or behind a `\` within them
pub data Quoting : Type 0 where
  Outside : Quoting
  Within : Quoting
  Behind : Quoting

-- where the next octet stands
abbrev pub next_of : Quoting → ℕ → Quoting
next_of Outside b = if nat_eq b 34 then Within else Outside
next_of Within b = if nat_eq b 34 then Outside else (if nat_eq b 92 then Behind else Within)
next_of Behind b = Within

-- does a comment begin: with a `;` outside of quotes
abbrev pub begins_comment : Quoting → ℕ → Bool
begins_comment Outside b = nat_eq b 59
begins_comment Within b = false
begins_comment Behind b = false

-- what stands before the comment of a line
abbrev pub before_comment : Quoting → List ℕ → List ℕ
before_comment q [] = []
before_comment q (b ∷ t) = if begins_comment q b then [] else b ∷ before_comment (next_of q b) t

-- is a line empty
abbrev pub is_blank : List ℕ → Bool
is_blank [] = true
is_blank (b ∷ t) = false

-- a line without the spaces at its end
abbrev pub trimmed : List ℕ → List ℕ
trimmed [] = []
trimmed (b ∷ t) = if nat_eq b 32 && is_blank (trimmed t) then [] else b ∷ trimmed t

-- a line without its comment and the spaces before it
abbrev pub bare : List ℕ → List ℕ
bare line = trimmed (before_comment Outside line)

-- lines without their comments, and without those of which nothing is left
abbrev pub bare_lines : List (List ℕ) → List (List ℕ)
bare_lines ls = filter (λ l. if is_blank l then false else true) (map bare ls)

-- the lines of a text without that of the verdict, which stands first where a fault is told
abbrev pub below_verdict : Option Finding → List (List ℕ) → List (List ℕ)
below_verdict None ls = ls
below_verdict (Some f) ls = drop 1 ls

-- lines without their comments, but for the first five, those of the header
abbrev pub bare_below : List (List ℕ) → List (List ℕ)
bare_below ls = take 5 ls ++ bare_lines (drop 5 ls)

-- a text without the line of the verdict and its comments, but for the five lines of its header
abbrev pub bare_text : Option Finding → List ℕ → List ℕ
bare_text told t = ended (bare_below (below_verdict told (lines_of t)))

-- the lines of the instructions that are asked for, as they are told, without control characters
abbrev pub asked_lines : Subject → List (List ℕ)
asked_lines S = map (λ n. plain_of (line_of S n))
    (filter (is_of S.insts S.asked) (range_with_len 0 (length S.insts)))
