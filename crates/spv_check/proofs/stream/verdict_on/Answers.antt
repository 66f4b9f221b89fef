use Rattle.std.proofs.Common.{refl}
use Rattle.spv_check.proofs.Verdicts.{known_verdict, refused_bytes, refused_count, refused_only}
use Rattle.spv_check.proofs.stream.verdict_on.Goals as goal

pub returns-in-Err-clause-known : goal.returns-in-Err-clause-known
returns-in-Err-clause-known g c =
    rw c.refusal.ensures (refused_bytes c.args.table.now c.args.reach _ c.in-Err.code c.in-Err.ensures.refuses)

pub returns-in-Err-clause-count : goal.returns-in-Err-clause-count
returns-in-Err-clause-count g c = rw c.refusal.ensures (refused_count _ c.in-Err.code _ refl c.in-Err.ensures.count)

pub returns-in-Err-clause-only : goal.returns-in-Err-clause-only
returns-in-Err-clause-only g c = rw c.refusal.ensures (refused_only c.in-Err.code)

pub returns-clause-known : goal.returns-clause-known
returns-clause-known g c =
    known_verdict c.args.table.now c.args.reach _ _ c.in-Ok.field-0-1 _ c.in-Ok.ensures.gives c.judged.ensures.verdict
