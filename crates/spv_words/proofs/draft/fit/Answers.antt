use Rattle.std.proofs.Common.{arith}
use Rattle.spv_words.proofs.Standing.{octets-fit}
use Rattle.spv_words.proofs.draft.fit.Goals as goal

pub returns : goal.returns
returns c = octets-fit c.args.bytes.now (λ i. let f = c.type_inv.bytes i in omega arith)
