-- The first rule that is broken at an instruction. (For the code alone.)
use Rattle.std.specs.Prelude.{◌≤◌, ℕ, List, Option, Some, MatchOption}
use Rattle.spv_table.specs.Table.{Table}
use Rattle.spv_module.specs.Operand.{PlainInst}
use Rattle.spv_module.specs.declared.fault.Rule.{Rule}
use Rattle.spv_layout.specs.First.{rank_of}
use Rattle.spv_kernel_operands.specs.Scopes.{IsMisscoped}
use Rattle.spv_kernel_operands.specs.Pointers.{IsMisatomic, IsMiswritten, IsEmptyCopy}
use Rattle.spv_kernel_operands.specs.Broken.{Broken, IsBrokenBy}

-- It is broken, and none that comes before it; or none is.
abbrev pub IsFirstOf : (Rule → Type 0) → Option Rule → Type 0
IsFirstOf P o = MatchOption o ((r : Rule) → ¬ (P r)) (λ r. P r × ((q : Rule) → P q → rank_of r ≤ rank_of q))

abbrev pub IsFirstAt : Table → List PlainInst → ℕ → Option Rule → Type 0
IsFirstAt G is n o = IsFirstOf (λ r. Broken G is r n) o

-- No rule of O14 to O17 is broken by instruction i.
pub record AreKept (G : Table) (is : List PlainInst) (i : PlainInst) : Type 0 where
  pub scopes : ¬ (IsMisscoped is i)
  pub atomic : ¬ (IsMisatomic G is i)
  pub written : ¬ (IsMiswritten is i)
  pub copied : ¬ (IsEmptyCopy is i)

-- The first rule that instruction i breaks, if that is one of O14 to O17.
abbrev pub IsFirstInMemory : Table → List PlainInst → PlainInst → Option Rule → Type 0
IsFirstInMemory G is i o = MatchOption o (AreKept G is i) (λ r. IsFirstOf (IsBrokenBy G is i) (Some r))
