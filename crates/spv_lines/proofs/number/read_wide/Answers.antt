use Rattle.spv_lines.proofs.Taking.{wide_refused}
use Rattle.spv_lines.proofs.number.read_wide.Goals as goal

pub returns-in-Err : goal.returns-in-Err
returns-in-Err c = λ G k w n. wide_refused G k w c.args.token.now c.in-Err.why n c.in-Err.ensures
