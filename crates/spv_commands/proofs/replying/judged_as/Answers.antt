use Rattle.spv_commands.proofs.replying.judged_as.Goals as goal

pub returns-clause-gives : goal.returns-clause-gives
returns-clause-gives c = rw (c.take_as.ensures, c.reach-reach.ensures, c.deref.ensures.value) at c.judged.ensures.gives
