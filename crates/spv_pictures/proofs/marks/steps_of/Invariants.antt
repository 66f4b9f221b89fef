use Rattle.std.proofs.Common.{◌≡◌, ℕ, ◌-◌, drop}
use Rattle.std.specs.Prelude.{◌||◌}
use Rattle.std.specs.BTreeSet.{contains}
use Rattle.spv_pictures.specs.Blocks.{goes}
use Rattle.spv_pictures.specs.inner.Marks.{pair_cmp}
use Rattle.spv_pictures.proofs.marks.steps_of.Given as goal

abbrev pub invariant-loop-at : goal.invariant-loop-at
invariant-loop-at l = (a b : ℕ)
    → (contains pair_cmp l.steps (a, b) || goes (drop (l.at - 1) l.walk) a b) ≡ goes l.walk a b
