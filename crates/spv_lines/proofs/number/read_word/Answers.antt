use Rattle.spv_lines.proofs.Taking.{word_refused}
use Rattle.spv_lines.proofs.number.read_word.Goals as goal

pub returns-in-Err : goal.returns-in-Err
returns-in-Err c = λ G hex k. word_refused G hex k c.args.token.now c.in-Err.why c.in-Err.ensures
