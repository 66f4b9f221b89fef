use Rattle.spvk.proofs.Explanations.{explained}
use Rattle.spvk.proofs.explaining.explained_bytes.Goals as goal

pub returns-in-Ok : goal.returns-in-Ok
returns-in-Ok c = explained c.args.table.now c.args.reach c.args.bytes.now c.in_ok-explanation.explanation _
    c.in_ok-explanation.ensures c.numbers.ensures c.in-Ok.ensures
