use Rattle.std.proofs.Common.{◌<◌, ℕ}
use Rattle.spv_module.specs.Module.{plain_inst}
use Rattle.spv_declarations.specs.inner.Shown.{NamesStruct}
use Rattle.spv_declarations.proofs.shown.members.struct_place.Given as goal

abbrev pub invariant-loop-k : goal.invariant-loop-k
invariant-loop-k l = (j : ℕ) → j < l.k → ¬ (NamesStruct l.found (plain_inst l.inst).operands j)
