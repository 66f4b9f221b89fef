use Rattle.spv_module.specs.Module.{plain_inst}
use Rattle.spv_standard_evidence.proofs.Placed.{target_shown}
use Rattle.spv_standard_evidence.proofs.placements.target_evidence.Goals as goal

pub returns : goal.returns
returns c = target_shown c.args.definitions.now (plain_inst c.args.inst.now) c.args.group c.in_ok-target.target.operand
    c.in_ok-target.target.inst c.requires.group c.in_ok-target.ensures
