use Rattle.std.proofs.Common.{map}
use Rattle.spv_module.specs.Module.{plain_inst}
use Rattle.spv_names.proofs.Given.{none_seen}
use Rattle.spv_names.proofs.chosen.function_named.Goals as goal

pub loop-inst-init : goal.loop-inst-init
loop-inst-init c = none_seen (map plain_inst c.args.insts.now) c.args.name.now
