use Rattle.spv_module.specs.Module.{plain_inst}
use Rattle.spv_annotate.proofs.Noteless.{names_none}
use Rattle.spv_annotate.proofs.firsts.named_by.Goals as goal

pub returns-then-inst-ne-NAME : goal.returns-then-inst-ne-NAME
returns-then-inst-ne-NAME c = names_none (plain_inst c.args.inst.now) c.if-inst-ne-NAME.true
