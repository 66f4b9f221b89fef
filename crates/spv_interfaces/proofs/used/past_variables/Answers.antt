use Rattle.std.proofs.Common.{◌-◌}
use Rattle.spv_module.specs.Module.{plain_inst}
use Rattle.spv_interfaces.proofs.Early.{between_less}
use Rattle.spv_interfaces.proofs.Placing.{no_variable}
use Rattle.spv_interfaces.proofs.used.past_variables.Goals as goal

pub loop-end-preserved : goal.loop-end-preserved
loop-end-preserved c = between_less c.args.definitions.now c.args.first c.loop-end.end c.loop-end-test.true
    c.loop-end.invariant (λ x g. no_variable c.args.definitions.now (c.loop-end.end - 1) (plain_inst c.inst.result.now)
    c.inst.ensures c.if-inst-ne-VARIABLE.true x g)
