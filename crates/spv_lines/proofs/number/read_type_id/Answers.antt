use Rattle.spv_lines.proofs.Taking.{type_refused}
use Rattle.spv_lines.proofs.number.read_type_id.Goals as goal

pub returns-in-Err : goal.returns-in-Err
returns-in-Err c = λ G hex k. type_refused G hex k c.args.token.now c.in-Err.why c.in-Err.ensures
