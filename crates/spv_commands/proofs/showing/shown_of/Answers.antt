use Rattle.spv_commands.specs.Show.{shown}
use Rattle.spv_commands.proofs.Showings.{dead_shown}
use Rattle.spv_commands.proofs.showing.shown_of.Goals as goal

pub returns-in-Err-clause-shown : goal.returns-in-Err-clause-shown
returns-in-Err-clause-shown c =
    λ bytes order h. rw c.unlisted.ensures
    (dead_shown c.args.table.now c.args.reach bytes c.args.image.now order c.in-Err.stop h c.in-Err.ensures.dead)

pub returns-in-Ok-clause-shown : goal.returns-in-Ok-clause-shown
returns-in-Ok-clause-shown c = λ bytes order h. let s = c.in-Ok.ensures.shown in
    rw c.told_bytes.ensures (shown c.args.image.now order s.header s.insts _ h s.told s.listed s.shown)
