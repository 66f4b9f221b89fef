use Rattle.std.proofs.Common.{◌≡◌, ◌++◌, ◌/◌, ◌^◌, ◌-◌, ◌*◌, string_bytes}
use Rattle.spv_lines.specs.Digits.{hex_digits}
use Rattle.spv_printer.proofs.number.push_hexadecimal.Given as goal

abbrev pub invariant-loop-place : goal.invariant-loop-place
invariant-loop-place l =
    string_bytes l.out ≡ string_bytes l.fn.out ++ hex_digits l.place (l.word / 2 ^ (32 - 4 * l.place))
