use Rattle.std.proofs.Common.{◌<◌, ℕ}
use Rattle.spv_module.specs.Module.{plain_inst}
use Rattle.spv_standard_evidence.specs.inner.Operands.{IsWider}
use Rattle.spv_standard_evidence.proofs.operands.switch.wide_literal.Given as goal

abbrev pub invariant-loop-k : goal.invariant-loop-k
invariant-loop-k l = (j : ℕ) → j < l.k → ¬ (IsWider (plain_inst l.inst).operands l.width j)
