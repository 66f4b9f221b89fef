use Rattle.spv_declarations.proofs.Adding.{both_put}
use Rattle.spv_declarations.proofs.sets.put_member.Goals as goal

pub returns : goal.returns
returns c = both_put c.args.set.now c.insert.new.self c.args.t c.args.k c.in_ok-insert.ensures.updates
