use Rattle.std.proofs.Common.{◌↔◌, drop}
use Rattle.spv_module.specs.Module.{plain_operands}
use Rattle.spv_declarations.specs.inner.Sets.{AnyId}
use Rattle.spv_declarations.proofs.decorated.has_id.Given as goal

abbrev pub invariant-loop-operand : goal.invariant-loop-operand
invariant-loop-operand l = AnyId (λ x. Unit {0}) (plain_operands (drop l.operand-index l.operands))
    ↔ AnyId (λ x. Unit {0}) (plain_operands l.operands)
