use Rattle.std.proofs.Common.{◌<◌, ℕ}
use Rattle.spv_type_forms.specs.Definitions.{IsGlobal}
use Rattle.spv_interfaces.proofs.used.first_variable.Given as goal

abbrev pub invariant-loop-number : goal.invariant-loop-number
invariant-loop-number l = (x : ℕ) (g : IsGlobal l.definitions x) → ¬ (g.place < l.number)
