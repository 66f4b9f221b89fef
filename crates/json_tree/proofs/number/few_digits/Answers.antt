use Rattle.std.proofs.Common.{◌≡◌, ◌+◌, ◌-◌, ◌*◌, ◌<◌, ◌≤◌, length, get_or, take, ap, ◌∙◌, arith}
use Rattle.json_tree.proofs.Digits.{one_more_digit}
use Rattle.json_tree.proofs.number.few_digits.Goals as goal

pub overflow_mul-number : goal.overflow_mul-number
overflow_mul-number c =
    let l = c.loop-byte in
    let digit = c.if-not-is_ascii_digit.ensures.cases in
    let turn = one_more_digit c.args.bytes.now l.byte-index l.number c.loop-byte-test.true (omega arith) l.invariant.digits l.invariant.value (omega (arith, digit)) (omega (arith, digit)) in
    let room = turn.room in
    omega arith

pub overflow_add-number : goal.overflow_add-number
overflow_add-number c =
    let l = c.loop-byte in
    let digit = c.if-not-is_ascii_digit.ensures.cases in
    let turn = one_more_digit c.args.bytes.now l.byte-index l.number c.loop-byte-test.true (omega arith) l.invariant.digits l.invariant.value (omega (arith, digit)) (omega (arith, digit)) in
    let room = turn.room in
    let from = c.from.ensures in
    omega (arith, digit)

pub loop-byte-preserved : goal.loop-byte-preserved
loop-byte-preserved c =
    let l = c.loop-byte in
    let digit = c.if-not-is_ascii_digit.ensures.cases in
    let turn = one_more_digit c.args.bytes.now l.byte-index l.number c.loop-byte-test.true (omega arith) l.invariant.digits l.invariant.value (omega (arith, digit)) (omega (arith, digit)) in
    record { digits = turn.digits; value = ap (λ d. 10 * l.number + d) c.from.ensures ∙ turn.value }
