-- What is looked up of a finding. (For the code alone.)
use Rattle.std.specs.Prelude.{◌≡◌, ℕ, nat_eq}
use Rattle.std.specs.List.{list_any}
use Rattle.std.specs.BTreeSet.{contains}
use Rattle.std.specs.declared.cmp.Ordering.{Ordering}
use Rattle.std.specs.Ordering.{nat_cmp, ordering_then}
use Rattle.spv_pictures.specs.Blocks.{goes, walk_of}
use Rattle.spv_pictures.specs.declared.marks.Marks.{Marks}

-- the order of pairs of numbers: by the first, then by the second
abbrev pub pair_cmp : ℕ × ℕ → ℕ × ℕ → Ordering
pair_cmp x y = ordering_then (nat_cmp x.0 y.0) (nat_cmp x.1 y.1)

-- The blocks and the steps are those of the finding's walk.
pub record AreMarks (m : Marks) : Type 0 where
  pub blocks : (x : ℕ) → contains nat_cmp m.blocks x ≡ list_any (nat_eq x) (walk_of m.finding)
  pub steps : (a b : ℕ) → contains pair_cmp m.steps (a, b) ≡ goes (walk_of m.finding) a b
