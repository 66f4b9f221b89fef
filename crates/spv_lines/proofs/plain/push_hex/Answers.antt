use Rattle.std.proofs.Common.{◌/◌}
use Rattle.spv_lines.proofs.HexWritten.{first_digit, more_digits}
use Rattle.spv_lines.proofs.plain.push_hex.Goals as goal

pub returns : goal.returns
returns c =
    let x = c.args.word in
    more_digits 7 x _ _ _ (more_digits 6 (x / 16) _ _ _
    (more_digits 5 (x / 16 / 16) _ _ _ (more_digits 4 (x / 16 / 16 / 16) _ _ _
    (more_digits 3 (x / 16 / 16 / 16 / 16) _ _ _ (more_digits 2 (x / 16 / 16 / 16 / 16 / 16) _ _ _
    (more_digits 1 (x / 16 / 16 / 16 / 16 / 16 / 16) _ _ _ (first_digit (x / 16 / 16 / 16 / 16 / 16 / 16 / 16) _ _
    c.in_ok-push_digit.ensures) c.in_ok-push_digit-2.ensures) c.in_ok-push_digit-3.ensures)
    c.in_ok-push_digit-4.ensures)
    c.in_ok-push_digit-5.ensures) c.in_ok-push_digit-6.ensures) c.in_ok-push_digit-7.ensures)
    c.in_ok-push_digit-8.ensures
