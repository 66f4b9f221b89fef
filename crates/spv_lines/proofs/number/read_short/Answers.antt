use Rattle.spv_lines.proofs.Taking.{over_word, short_refused}
use Rattle.spv_lines.proofs.number.read_short.Goals as goal

pub returns-else-number-lt4294967296 : goal.returns-else-number-lt4294967296
returns-else-number-lt4294967296 c =
    over_word c.args.text.now c.in-Ok.number c.in-Ok.ensures c.if-number-lt4294967296.false

pub returns-in-Err : goal.returns-in-Err
returns-in-Err c = short_refused c.args.text.now c.in-Err.why c.in-Err.ensures
