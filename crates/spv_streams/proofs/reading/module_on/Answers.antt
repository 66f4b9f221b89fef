use Rattle.std.proofs.Common.{ap, Err, refl}
use Rattle.spv_commands.proofs.Assemblings.{all_read}
use Rattle.spv_streams.proofs.Replies.{stopped_count, stopped_known, stopped_only}
use Rattle.spv_streams.proofs.reading.module_on.Goals as goal

pub returns-in-Ok-clause-known : goal.returns-in-Ok-clause-known
returns-in-Ok-clause-known g c = all_read _ _ c.in-Ok.bytes.items c.in-Ok.ensures.known.0 c.in-Ok.ensures.known.1

pub returns-in-Err-clause-known : goal.returns-in-Err-clause-known
returns-in-Err-clause-known g c =
    rw c.stopped.ensures (stopped_known _ c.in-Err.code (λ e. c.in-Err.ensures.over (ap Err e)))

pub returns-in-Err-clause-count : goal.returns-in-Err-clause-count
returns-in-Err-clause-count g c = rw c.stopped.ensures (stopped_count _ c.in-Err.code _ refl c.in-Err.ensures.count)

pub returns-in-Err-clause-only : goal.returns-in-Err-clause-only
returns-in-Err-clause-only g c = rw c.stopped.ensures (stopped_only c.in-Err.code)
