use Rattle.spv_lines.proofs.Taking.{id_refused}
use Rattle.spv_lines.proofs.number.read_id.Goals as goal

pub returns-in-Err : goal.returns-in-Err
returns-in-Err c = λ G hex k. id_refused G hex k c.args.token.now c.in-Err.why c.in-Err.ensures
