use Rattle.std.proofs.Common.{◌≡◌, ◌<◌, ℕ, drop, get_or, slice_get}
use Rattle.spv_table.specs.Table.{enumerant_of}
use Rattle.spv_table.proofs.enumerant_list.near_places.Given as goal

abbrev pub invariant-loop-i : goal.invariant-loop-i
invariant-loop-i l = (v : ℕ) → v < 64 → slice_get l.enumerants (get_or l.places.items v 4294967295) ≡ enumerant_of (drop l.i l.enumerants) v
