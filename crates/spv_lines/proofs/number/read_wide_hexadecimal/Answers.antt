use Rattle.spv_lines.proofs.Taking.{wide_sixteen, no_hexadecimal, no_wide}
use Rattle.spv_lines.proofs.number.read_wide_hexadecimal.Goals as goal

pub returns-in_default : goal.returns-in_default
returns-in_default c = λ G k w n. no_hexadecimal G k w c.args.token.now c.in_default.ensures

pub returns-in-Some-read_sixteen : goal.returns-in-Some-read_sixteen
returns-in-Some-read_sixteen c =
    λ G k w n. wide_sixteen G k w c.in-Some-read_sixteen.low c.in-Some-read_sixteen.high c.args.token.now
    c.in-Some.digits.now n c.in-Some.ensures c.in-Some-read_sixteen.ensures

pub returns-in-None : goal.returns-in-None
returns-in-None c = λ G k w n. no_wide G k w c.args.token.now c.in-Some.digits.now n c.in-Some.ensures c.in-None.ensures
