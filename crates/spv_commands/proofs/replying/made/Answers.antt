use Rattle.spv_commands.proofs.Answerings.{held_in}
use Rattle.spv_commands.proofs.replying.made.Goals as goal

pub returns-clause-made : goal.returns-clause-made
returns-clause-made c = held_in c.args.order c.args.minor c.args.image _ _ c.put_version.ensures c.into_octets-bytes.ensures
