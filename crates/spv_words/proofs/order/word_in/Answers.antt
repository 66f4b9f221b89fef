use Rattle.std.proofs.Common.{◌*◌, ◌+◌, ◌-◌, ◌∙◌, arith}
use Rattle.spv_words.proofs.Turning.{little_at, big_at}
use Rattle.spv_words.proofs.order.word_in.Goals as goal

pub returns-in-Little : goal.returns-in-Little
returns-in-Little c = rw c.in-Little.is (c.read_u32.ensures ∙ little_at c.args.bytes.now c.args.n (c.args.n * 4) (c.args.n * 4 + 4 - c.args.n * 4) (omega arith) (omega arith) (omega arith))

pub returns-in-Big : goal.returns-in-Big
returns-in-Big c = rw c.in-Big.is (c.read_u32-in-Big.ensures ∙ big_at c.args.bytes.now c.args.n (c.args.n * 4) (c.args.n * 4 + 4 - c.args.n * 4) (omega arith) (omega arith) (omega arith))
