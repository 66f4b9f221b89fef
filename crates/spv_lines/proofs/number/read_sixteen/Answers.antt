use Rattle.std.proofs.Common.{◌∙◌}
use Rattle.spv_lines.proofs.Taking.{sixteen, sixteen_of}
use Rattle.spv_lines.proofs.number.read_sixteen.Goals as goal

pub returns-then-digits-ne16 : goal.returns-then-digits-ne16
returns-then-digits-ne16 c = λ x y h g e. c.if-digits-ne16.true (sixteen c.args.digits.now x y e).0

pub returns-in_default : goal.returns-in_default
returns-in_default c =
    λ x y h g e. c.in_default.ensures y g (c.split_at.ensures.front ∙ (sixteen c.args.digits.now x y e).1)

pub returns-in_default-read_eight : goal.returns-in_default-read_eight
returns-in_default-read_eight c =
    λ x y h g e. c.in_default-read_eight.ensures x h (c.split_at.ensures.back ∙ (sixteen c.args.digits.now x y e).2)

pub returns : goal.returns
returns c = sixteen_of c.args.digits.now c.split_at.result.0.now c.split_at.result.1.now c.in-Some-read_eight.low
    c.in-Some.high c.split_at.ensures.front c.split_at.ensures.back c.in-Some.ensures c.in-Some-read_eight.ensures
