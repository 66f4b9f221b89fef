use Rattle.spv_conditions.proofs.lemmas.Shares.{shares_left}
use Rattle.spv_conditions.proofs.constituents.give.Goals as goal

pub returns : goal.returns
returns c =
    let d = shares_left c.args.definitions.now c.args.c c.args.n c.args.types.now in
    (λ y. d.0 (c.leave_none.ensures.0 y), λ r. c.leave_none.ensures.1 (d.1 r))
