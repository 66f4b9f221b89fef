use Rattle.spv_commands.proofs.replying.viewed_as.Goals as goal

pub returns-clause-gives : goal.returns-clause-gives
returns-clause-gives c = rw (c.take_as.ensures, c.reach-reach.ensures, c.deref.ensures.value) at c.viewed.ensures.gives

pub returns-clause-only : goal.returns-clause-only
returns-clause-only c = rw (c.take_as.ensures, c.reach-reach.ensures, c.deref.ensures.value) at c.viewed.ensures.only
