use Rattle.std.proofs.Common.{◌++◌, ◌∙◌, ap, string_bytes}
use Rattle.spv_printer.proofs.HexDigits.{hex_first, hex_step, hex_last}
use Rattle.spv_printer.proofs.number.push_hexadecimal.Goals as goal

pub loop-place-init : goal.loop-place-init
loop-place-init c = hex_first (string_bytes c.args.out.now) c.args.word

pub loop-place-preserved : goal.loop-place-preserved
loop-place-preserved c =
    hex_step c.loop-place.place c.args.word (string_bytes c.args.out.now) (string_bytes c.loop-place.out)
    (string_bytes c.push.new.self) c.hexadecimal_digit.result c.loop-place-test.true c.loop-place.invariant
    c.hexadecimal_digit.ensures.digit (c.in_ok-push.ensures.bytes
    ∙ ap (λ z. string_bytes c.loop-place.out ++ z) (c.push.ensures.ascii c.hexadecimal_digit.ensures.ascii))

pub returns : goal.returns
returns c = hex_last c.loop-place.place c.args.word (string_bytes c.args.out.now) (string_bytes c.loop-place.out)
    (omega Rattle.std.proofs.Common.arith) c.loop-place.invariant
