use Rattle.std.proofs.Common.{◌≡◌, ◌<◌, ◌≤◌, ◌+◌, ℕ, length, get_or}
use Rattle.spv_table.specs.declared.table.Item as declared
use Rattle.spv_table.specs.declared.table.Quantifier.TheVariants.{One}
use Rattle.spv_table.proofs.pattern.optional_in.Given as goal

abbrev pub invariant-loop-i : goal.invariant-loop-i
invariant-loop-i l = (l.optional + l.i ≡ length l.items) × ((k : ℕ) (d : declared.Item) → l.i ≤ k → k < length l.items → (get_or l.items k d).quantifier ≡ One → ⊥)
