use denote.Shadow.{shadow}
use denote.Text.{Utf8}
use Rattle.std.proofs.Common.{◌≡◌, ◌++◌, ◌∷◌, [], length, string_bytes}
use Rattle.spv_lines.specs.Operand.{escaped, quoted}
use Rattle.spv_printer.proofs.quoted.push_quoted.Given as goal

abbrev pub invariant-loop-at : goal.invariant-loop-at
invariant-loop-at l =
    shadow (Utf8 l.rest) × (string_bytes l.out ++ (escaped l.rest ++ (34 ∷ [])) ≡ string_bytes l.fn.out
    ++ quoted l.text)

abbrev pub decreases-loop-at : goal.decreases-loop-at
decreases-loop-at l = length l.rest
