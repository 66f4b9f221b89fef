use Rattle.std.proofs.Common.{◌≡◌, drop}
use Rattle.spv_module.specs.Module.{plain_inst, plain_operands}
use Rattle.spv_type_rules.specs.inner.Print.{mixed_with_operands, fingerprint_of}
use Rattle.spv_type_rules.proofs.fingerprint.fingerprint_of.Given as goal

abbrev pub invariant-loop-operand : goal.invariant-loop-operand
invariant-loop-operand l =
    mixed_with_operands l.mixed (plain_operands
    (drop l.operand-index l.operand-items)) ≡ fingerprint_of (plain_inst l.inst)
