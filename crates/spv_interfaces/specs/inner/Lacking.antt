-- Entry points that lack one of some variables, by a bit of each variable. (For the code alone.)
use Rattle.std.specs.Prelude.{◌≡◌, ◌≤◌, ◌<◌, ℕ, List, Some, slice_get}
use Rattle.spv_table.specs.Table.{Table}
use Rattle.spv_module.specs.Operand.{PlainInst}
use Rattle.spv_flow.specs.declared.calls.graph.Call.{Call}
use Rattle.spv_flow.specs.calls.Chain.{Chain}
use Rattle.spv_flow.specs.calls.inner.Graph.{HasCall}
use Rattle.spv_interfaces.specs.declared.used.Use.{Use}
use Rattle.spv_interfaces.specs.inner.Counted.{IsListed}
use Rattle.spv_interfaces.specs.inner.Entries.{Begins, IsUnnamed, Names}
use Rattle.spv_interfaces.specs.inner.Marks.{HasMarked, IsMarked}
use Rattle.spv_interfaces.specs.inner.Uses.{HasUse}

-- A chain of calls that are turned round leads to the function from one that uses the variable.
pub record Needs (turned : List Call) (uses : List Use) (f v : ℕ) : Type 0 where
  pub user : ℕ
  pub has : HasUse uses user v
  pub chain : Chain (HasCall turned) user f

-- The bit of each of a few variables is its place among them: `named` has it at the variable, and `reached` at each
-- function that uses the variable, itself or by calls. There are words for so many instructions.
pub record AreMarks (total : ℕ) (turned : List Call) (uses : List Use) (few reached named : List ℕ) : Type 0 where
  pub is_named : (v k : ℕ) → IsMarked named v k → slice_get few k ≡ Some v
  pub all_named : (v k : ℕ) → v < total → slice_get few k ≡ Some v → IsMarked named v k
  pub is_reached : (f k : ℕ) → IsMarked reached f k → (v : ℕ) × (slice_get few k ≡ Some v) × Needs turned uses f v
  pub all_reached : (f v k : ℕ) (r : Needs turned uses f v) → r.user < total → v < total
      → slice_get few k ≡ Some v → IsMarked reached f k

-- The function of the entry point has a bit that nothing has which is in its interface.
pub record IsLacking (is : List PlainInst) (reached named : List ℕ) (n : ℕ) : Type 0 where
  pub bit : ℕ
  pub has : HasMarked (Begins is n) reached bit
  pub lacks : ¬ (HasMarked (Names is n) named bit)

-- Something is so of none of the first numbers of the list, up to a place; and of the number there something is so, if
-- that place is below `to`.
pub record IsFirstPlace (P Q : ℕ → Type 0) (list : List ℕ) (to at : ℕ) : Type 0 where
  pub within : at ≤ to
  pub before : (k n : ℕ) → k < at → slice_get list k ≡ Some n → ¬ (P n)
  pub there : (n : ℕ) → at < to → slice_get list at ≡ Some n → Q n

-- The call tree uses one of the first variables of the list, which is not in the interface and has to be there.
pub record Lacks (G : Table) (minor : ℕ) (is : List PlainInst) (variables : List ℕ) (to n : ℕ) : Type 0 where
  pub unnamed : IsUnnamed G minor is n
  pub place : ℕ
  pub below : place < to
  pub there : slice_get variables place ≡ Some unnamed.used.variable.place

-- What one of the entry points lacks is in the list.
pub record AreAll (G : Table) (minor : ℕ) (is : List PlainInst) (entries variables : List ℕ) : Type 0 where
  pub each : (k n : ℕ) → slice_get entries k ≡ Some n → (w : IsUnnamed G minor is n)
      → IsListed variables w.used.variable.place
