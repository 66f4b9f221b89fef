use Rattle.std.proofs.Common.{IfOk}
use Rattle.spv_commands.specs.Assemble.{Assembles}
use Rattle.spv_streams.specs.inner.Put.{GivesBoth}
use Rattle.spv_streams.proofs.Replies.{all_known, text_reason}
use Rattle.spv_streams.proofs.assembling.assembled_on.Goals as goal

pub returns-clause-known : goal.returns-clause-known
returns-clause-known g c =
    all_known _ c.in_ok-bytes.bytes.items
    (λ xs. IfOk c.assembled.result (GivesBoth (Assembles c.args.table.now c.args.order c.args.explain c.args.opencl) xs))
    c.in_ok-bytes.ensures.known c.assembled.ensures.gives

pub returns-clause-only : goal.returns-clause-only
returns-clause-only g c =
    text_reason c.args.opencl _ c.in_ok-bytes.bytes.items c.assembled.result c.in_ok-bytes.ensures.known c.assembled.ensures.only
