use Rattle.std.proofs.Common.{◌≤◌, length, arith}
use Rattle.spv_module.specs.Module.{plain_inst}
use Rattle.spv_std_types.proofs.Passing.{first_of_all, none_miscalled, none_passed, passed_by}
use Rattle.spv_std_types.proofs.calls.first_miscalls.Goals as goal

pub loop-number-init : goal.loop-number-init
loop-number-init c = none_passed c.args.definitions.now

pub loop-number-preserved-then-inst-ne-EXT_INST : goal.loop-number-preserved-then-inst-ne-EXT_INST
loop-number-preserved-then-inst-ne-EXT_INST c =
    passed_by c.args.definitions.now c.loop-number.number c.loop-number.pass (plain_inst c.inst-inst.result.now)
    c.loop-number.invariant c.inst-inst.ensures c.if-inst-ne-EXT_INST.true

pub returns : goal.returns
returns c =
    let past : length c.args.definitions.now ≤ c.loop-number.number = omega arith in record {
      miscalled = none_miscalled c.args.definitions.now c.loop-number.number c.loop-number.invariant.called past;
      mistyped = λ _. first_of_all c.args.definitions.now c.loop-number.number c.loop-number.pass.mistyped
          c.loop-number.invariant.mistyped past;
    }
