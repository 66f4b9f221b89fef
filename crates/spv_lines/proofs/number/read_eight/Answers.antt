use Rattle.std.proofs.Common.{◌≡◌, ◌≤◌, ◌<◌, length, arith}
use Rattle.spv_lines.proofs.HexRead.{wrong_length, no_digit, hex_none, hex_more, hex_bound, hex_done}
use Rattle.spv_lines.proofs.number.read_eight.Goals as goal

pub returns-then-text-ne8 : goal.returns-then-text-ne8
returns-then-text-ne8 c = λ x h e. wrong_length c.args.text.now x c.if-text-ne8.true e

pub loop-octet-init : goal.loop-octet-init
loop-octet-init c = hex_none c.args.text.now

pub overflow_mul-word : goal.overflow_mul-word
overflow_mul-word c =
    let l : c.loop-octet.octet-index < 8 = omega arith in
    let b = hex_bound c.args.text.now c.loop-octet.octet-index c.loop-octet.word l c.loop-octet.invariant in
    omega arith

pub overflow_add-word : goal.overflow_add-word
overflow_add-word c =
    let l : c.loop-octet.octet-index < 8 = omega arith in
    let b = hex_bound c.args.text.now c.loop-octet.octet-index c.loop-octet.word l c.loop-octet.invariant in
    omega arith

pub returns-in_default : goal.returns-in_default
returns-in_default c =
    λ x h e. no_digit c.args.text.now c.loop-octet.octet-index x c.loop-octet-test.true c.in_default.ensures e

pub loop-octet-preserved : goal.loop-octet-preserved
loop-octet-preserved c =
    rw c.from.ensures (hex_more c.args.text.now c.loop-octet.octet-index c.loop-octet.word c.in-Some.digit
    c.loop-octet-test.true c.loop-octet.invariant c.in-Some.ensures.0 c.in-Some.ensures.1)

pub returns : goal.returns
returns c =
    let l : length c.args.text.now ≤ c.loop-octet.octet-index = omega arith in
    let e : length c.args.text.now ≡ 8 = omega arith in
    hex_done c.args.text.now c.loop-octet.octet-index c.loop-octet.word e l c.loop-octet.invariant
