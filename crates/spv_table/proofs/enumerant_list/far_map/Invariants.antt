use Rattle.std.proofs.Common.{◌≡◌, ◌≤◌, ℕ, drop, option_and_then, slice_get}
use Rattle.std.specs.BTreeMap as tree
use Rattle.std.specs.Ordering.{nat_cmp}
use Rattle.spv_table.specs.Table.{enumerant_of}
use Rattle.spv_table.proofs.enumerant_list.far_map.Given as goal

abbrev pub invariant-loop-i : goal.invariant-loop-i
invariant-loop-i l = (v : ℕ) → 64 ≤ v → option_and_then (slice_get l.enumerants) (tree.get nat_cmp l.places v) ≡ enumerant_of (drop l.i l.enumerants) v
