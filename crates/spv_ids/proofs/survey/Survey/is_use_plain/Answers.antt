use Rattle.std.proofs.Common.{◌<◌, length, arith}
use Rattle.spv_ids.proofs.Noting.{kept_near}
use Rattle.spv_ids.proofs.survey.Survey.is_use_plain.Goals as goal

pub returns : goal.returns
returns c = λ t.
    let near = c.args.near.now in
    let past = c.if-place-near.false in
    let within : c.args.id < length near = omega (arith, past) in
    c.is_plain.ensures c.args.id (λ l. kept_near c.args.self.now.firsts.now near c.args.id c.mark_at.result
    c.requires.near within (c.mark_at.ensures l)) t
