use Rattle.spv_commands.proofs.Assemblings.{fault_alone}
use Rattle.spv_commands.proofs.assembling.faulty.Goals as goal

pub returns-then-not-explain-clause-comes : goal.returns-then-not-explain-clause-comes
returns-then-not-explain-clause-comes c = λ f. rw c.if-not-explain.true (fault_alone _ _ _ _ c.utf8.text f)
