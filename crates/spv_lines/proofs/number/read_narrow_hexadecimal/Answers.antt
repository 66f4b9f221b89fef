use Rattle.spv_lines.proofs.Taking.{narrow_eight, no_hexadecimal, no_eight}
use Rattle.spv_lines.proofs.number.read_narrow_hexadecimal.Goals as goal

pub returns-in_default : goal.returns-in_default
returns-in_default c = λ G k w n. no_hexadecimal G k w c.args.token.now c.in_default.ensures

pub returns-in-Some-read_eight : goal.returns-in-Some-read_eight
returns-in-Some-read_eight c =
    λ G k w n. narrow_eight G k w c.in-Some-read_eight.low c.args.token.now c.in-Some.digits.now n c.in-Some.ensures
    c.in-Some-read_eight.ensures

pub returns-in-None : goal.returns-in-None
returns-in-None c = λ G k w n. no_eight G k w c.args.token.now c.in-Some.digits.now n c.in-Some.ensures
    c.in-None.ensures
