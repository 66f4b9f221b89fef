use Rattle.std.proofs.Common.{Err, ap}
use Rattle.spv_explain.proofs.Tellings.{octets_known, stopped_told}
use Rattle.spv_explain.proofs.stream.told_on.Goals as goal

pub returns-in-Ok-clause-known : goal.returns-in-Ok-clause-known
returns-in-Ok-clause-known g c =
    octets_known c.args.detail c.args.table.now c.args.reach _ _ c.in-Ok.octets.items _ c.in-Ok.ensures.known.0
    c.in-Ok.ensures.known.1
    c.octets_told.ensures.told

pub returns-in-Err-clause-known : goal.returns-in-Err-clause-known
returns-in-Err-clause-known g c =
    stopped_told c.one_refusal.ensures.once c.one_refusal.ensures.never c.args.detail c.args.table.now c.args.reach _
    c.in-Err.code _ _ c.in-Err.ensures.codes
    (λ e. c.in-Err.ensures.over (ap Err e)) c.refusal.ensures.refused c.refusal.ensures.lines
