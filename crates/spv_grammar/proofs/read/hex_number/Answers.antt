use Rattle.std.proofs.Common.{arith}
use Rattle.spv_grammar.proofs.Hex.{room_for_digit}
use Rattle.spv_grammar.proofs.read.hex_number.Goals as goal

pub overflow_mul-number : goal.overflow_mul-number
overflow_mul-number c = omega (arith, room_for_digit c.loop-digit.number c.loop-digit.digit-index c.loop-digit.invariant.fits (omega arith))

pub overflow_add-number : goal.overflow_add-number
overflow_add-number c = omega (arith, c.in_ok-hex_digit.ensures.small, room_for_digit c.loop-digit.number c.loop-digit.digit-index c.loop-digit.invariant.fits (omega arith))
