use Rattle.spv_declarations.proofs.shown.other.Both.before.Goals as goal

pub loop-number-preserved : goal.loop-number-preserved
loop-number-preserved c = c.in_ok-add.ensures c.loop-number.invariant
