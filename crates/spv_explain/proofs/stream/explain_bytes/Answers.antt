use Rattle.std.proofs.Common.{Ok}
use Rattle.spv_explain.proofs.Tellings.{refused_told}
use Rattle.spv_explain.proofs.stream.explain_bytes.Goals as goal

pub returns-in-Ok-refusal : goal.returns-in-Ok-refusal
returns-in-Ok-refusal c =
    refused_told c.one_refusal.ensures.once c.one_refusal.ensures.never c.args.detail c.args.table.now c.args.reach
    c.args.bytes.now c.in-Err.code
    (Ok c.in-Ok-refusal.told) c.in-Err.ensures.refuses c.in-Ok-refusal.ensures.refused
    (rw c.front_of.ensures at c.in-Ok-refusal.ensures.lines)
