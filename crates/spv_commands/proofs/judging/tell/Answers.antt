use Rattle.spv_commands.proofs.Parts.{nothing_on, on_and_on}
use Rattle.spv_commands.proofs.judging.tell.Goals as goal

pub returns-in-Some : goal.returns-in-Some
returns-in-Some g c =
    rw c.in-Some.is (on_and_on _ _ _ _ _ _ _ _ _ _ _ c.write_label-heard.ensures
    (rw c.trouble_line.ensures at c.write_on.ensures))

pub returns-in-None : goal.returns-in-None
returns-in-None g c = rw c.in-None.is (nothing_on _ _ _)
