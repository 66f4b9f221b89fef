use Rattle.spv_rules.proofs.Named.{any_named}
use Rattle.spv_rules.proofs.errors.AnyCode.named.Goals as goal

pub returns-in-None : goal.returns-in-None
returns-in-None c = any_named c.args.name.now c.error_named.result c.in-None.ensures c.error_named.ensures
