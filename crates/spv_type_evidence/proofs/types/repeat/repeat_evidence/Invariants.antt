use Rattle.std.proofs.Common.{◌≡◌, ◌<◌, ℕ, Some, map}
use Rattle.std.specs.Prelude.{slice_get}
use Rattle.spv_module.specs.Operand.{PlainInst}
use Rattle.spv_module.specs.Module.{plain_inst}
use Rattle.spv_type_rules.specs.inner.Repeat.{AreAlike}
use Rattle.spv_type_evidence.proofs.types.repeat.repeat_evidence.Given as goal

abbrev pub invariant-loop-m : goal.invariant-loop-m
invariant-loop-m l = (k : ℕ) (j : PlainInst) → k < l.m → slice_get (map plain_inst l.insts) k ≡ Some j
    → ¬ (AreAlike (plain_inst l.inst) j)
