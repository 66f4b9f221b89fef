use Rattle.std.proofs.Common.{◌↔◌, ◌⊎◌, ℕ, drop}
use Rattle.spv_module.specs.Module.{plain_operands}
use Rattle.spv_declarations.specs.Given.{HasId}
use Rattle.spv_declarations.specs.inner.Sets.{IsIn}
use Rattle.spv_declarations.proofs.sets.put_all.Given as goal

abbrev pub invariant-loop-operand : goal.invariant-loop-operand
invariant-loop-operand l = (x : ℕ) → (IsIn l.set x ⊎ HasId (plain_operands (drop l.operand-index l.operands)) x)
    ↔ (IsIn l.initial.set x ⊎ HasId (plain_operands l.operands) x)
