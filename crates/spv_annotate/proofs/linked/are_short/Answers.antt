use Rattle.std.proofs.Common.{arith}
use Rattle.spv_annotate.proofs.Escapes.{plain_escaped}
use Rattle.spv_annotate.proofs.linked.are_short.Goals as goal

pub returns-in-None-clause-plain : goal.returns-in-None-clause-plain
returns-in-None-clause-plain c = λ _. let m = rw c.as_bytes.ensures.value at c.in-None.ensures in
    plain_escaped c.args.tail.now (λ k l. m k (omega arith) l)
