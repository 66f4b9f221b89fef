use Rattle.std.proofs.Common.{◌≡◌, ◌<◌, ◌≤◌, ℕ, Some}
use Rattle.std.specs.Prelude.{slice_get}
use Rattle.spv_module.specs.Module.{plain_operands}
use Rattle.spv_module.specs.Operand.{Id}
use Rattle.spv_ids.specs.Outcome.{IsOnly}
use Rattle.spv_limits.specs.inner.Counting.{IsReached}
use Rattle.spv_limits.specs.inner.Kept.{kept}
use Rattle.spv_limits.proofs.depths.deepest.Given as goal

abbrev pub invariant-loop-k : goal.invariant-loop-k
invariant-loop-k l = record {
  bound : (p : ℕ) → p < l.k → (x j : ℕ) → slice_get (plain_operands l.members) p ≡ Some (Id x)
      → IsOnly l.definitions x j → kept l.depths j ≤ l.deepest;
  reached : IsReached l.definitions l.depths (plain_operands l.members) l.deepest;
  few : l.deepest ≤ 255;
}
