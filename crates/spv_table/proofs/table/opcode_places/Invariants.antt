use Rattle.std.proofs.Common.{◌≡◌, ℕ, get_or, slice_get, drop}
use Rattle.spv_table.specs.Table.{first_with}
use Rattle.spv_table.proofs.table.opcode_places.Given as goal

abbrev pub invariant-loop-i : goal.invariant-loop-i
invariant-loop-i l = (n : ℕ) → slice_get l.entries (get_or l.places.items n 4294967295) ≡ first_with (λ e. e.0) n (drop l.i l.entries)
