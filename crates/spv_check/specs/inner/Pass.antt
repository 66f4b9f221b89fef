-- What is known of the instructions before one. (For the code alone.)
use Rattle.std.specs.Prelude.{◌≡◌, ◌<◌, ◌⊎◌, ℕ, List, Option, Some, MatchOption, slice_get}
use Rattle.spv_table.specs.Table.{Table}
use Rattle.spv_module.specs.Operand.{PlainInst}
use Rattle.spv_module.specs.declared.fault.Rule.{Rule}
use Rattle.spv_layout.specs.First.{stage_of, rank_of}
use Rattle.spv_layout.specs.Stage as stages
use Rattle.spv_capabilities.specs.Keeps as capabilities
use Rattle.spv_ops.specs.Typed.{IsTyped}
use Rattle.spv_type_rules.specs.Keeps as rules

-- what all the rules after Y1 demand of the instruction i of number n
pub record KeepsRule (G : Table) (is : List PlainInst) (r : Rule) (n : ℕ) (i : PlainInst) : Type 0 where
  pub capabilities : capabilities.Keeps G is r n i
  pub types : rules.Keeps (IsTyped G is) is r n i

-- the rule, one of Y2 to Y8, is broken at instruction i of number n, and those of them that come before it are not
pub record IsFirstOfTypes (G : Table) (is : List PlainInst) (n : ℕ) (i : PlainInst) (r : Rule) : Type 0 where
  pub of_stage : stage_of r ≡ 5
  pub broken : ¬ (rules.Keeps (IsTyped G is) is r n i)
  pub least : (q : Rule) → rank_of q < rank_of r → rules.Keeps (IsTyped G is) is q n i

-- the first of them that is broken at the instruction; none where all are unbroken
abbrev pub IsFirstTypeHere : Table → List PlainInst → ℕ → PlainInst → Option Rule → Type 0
IsFirstTypeHere G is n i o =
    MatchOption o ((q : Rule) → rules.Keeps (IsTyped G is) is q n i) (λ r. IsFirstOfTypes G is n i r)

-- the first instructions keep them
pub record AreKept (G : Table) (is : List PlainInst) (to : ℕ) : Type 0 where
  pub each : (r : Rule) (n : ℕ) (i : PlainInst) → n < to → slice_get is n ≡ Some i → KeepsRule G is r n i

-- the rule is broken at instruction n, and those that come before it there are not, nor any rule at a lower instruction
pub record IsFirstFault (G : Table) (is : List PlainInst) (r : Rule) (n : ℕ) : Type 0 where
  pub inst : PlainInst
  pub there : slice_get is n ≡ Some inst
  pub of_stage : stage_of r ≡ stages.of_types
  pub broken : (¬ (capabilities.Keeps G is r n inst)) ⊎ (¬ (rules.Keeps (IsTyped G is) is r n inst))
  pub least : (q : Rule) → rank_of q < rank_of r → KeepsRule G is q n inst
  pub before : AreKept G is n
