use Rattle.spv_module.specs.Module.{plain_inst}
use Rattle.spv_standard_evidence.proofs.Limited.{past_inst, past_shown, past_within}
use Rattle.spv_standard_evidence.proofs.limits.limit_evidence.Goals as goal

pub inst-requires : goal.inst-requires
inst-requires c = past_within c.args.definitions.now c.args.inst c.requires

pub passed-limit-requires-clause-number : goal.passed-limit-requires-clause-number
passed-limit-requires-clause-number c = past_within c.args.definitions.now c.args.inst c.requires

pub passed-limit-requires-clause-passes : goal.passed-limit-requires-clause-passes
passed-limit-requires-clause-passes c =
    past_inst c.args.definitions.now c.args.inst (plain_inst c.inst.result.now) c.inst.ensures c.requires

pub returns : goal.returns
returns c =
    past_shown c.args.definitions.now c.args.inst (plain_inst c.inst.result.now) c.passed-limit.result c.most.result
    c.inst.ensures c.passed-limit.ensures c.most.ensures
