-- Which rules a list of instructions breaks, and which of them is told. (Own.)
use Rattle.std.specs.Prelude.{◌≡◌, ◌<◌, ◌≤◌, ℕ, List}
use Rattle.spv_table.specs.Table.{Table}
use Rattle.spv_module.specs.Operand.{PlainInst}
use Rattle.spv_module.specs.declared.fault.Rule.{Rule}
use Rattle.spv_module.specs.declared.fault.Stop.{Stop}
use Rattle.spv_module.specs.declared.fault.Stop.TheVariants.{Fault, Memory}
use Rattle.spv_extended.specs.declared.reach.Reach.{Reach}
use Rattle.spv_extended.specs.Broken as extended
use Rattle.spv_std_types.specs.Broken as std_types
use Rattle.spv_standard.specs.Broken as standard
use Rattle.spv_extended.specs.Reach.{profile_of}
use Rattle.spv_layout.specs.First.{stage_of, rank_of}
use Rattle.spv_layout.specs.Place.{first_word_of}
use Rattle.spv_layout.specs.Broken as layout
use Rattle.spv_ids.specs.Broken as ids
use Rattle.spv_check.specs.types.Broken as types
use Rattle.spv_flow.specs.branches.Broken as flow
use Rattle.spv_flow.specs.calls.Broken as calls
use Rattle.spv_check.specs.Fork.{fork_of}

-- Under the bound of ids, the rule is broken at the instruction of that number, as far as the list is looked at: a rule
-- of the profile or of the layout; on ids; on roles, capabilities, entry points or types; on where branches lead, or on
-- values that are defined on every walk; on cycles of calls; or, where extended instructions are looked at, on what
-- they take; or, in a kernel of OpenCL, on the types of the calls of OpenCL.std, or on what the standard asks of it
-- besides. [own]
pub data Broken (G : Table) (reach : Reach) (bound : ℕ) (is : List PlainInst) : Rule → ℕ → Type 0 where
  of_layout : (r : Rule) (n : ℕ) → layout.Broken (profile_of reach) G is r n → Broken G reach bound is r n
  of_ids : (r : Rule) (n : ℕ) → ids.Broken G bound is r n → Broken G reach bound is r n
  of_types : (r : Rule) (n : ℕ) → types.Broken G is r n → Broken G reach bound is r n
  of_flow : (r : Rule) (n : ℕ) → flow.Broken (fork_of reach) G is r n → Broken G reach bound is r n
  of_calls : (r : Rule) (n : ℕ) → calls.Broken is r n → Broken G reach bound is r n
  of_extended : (r : Rule) (n : ℕ) → extended.Broken reach is r n → Broken G reach bound is r n
  of_std_types : (r : Rule) (n : ℕ) → std_types.Broken reach is r n → Broken G reach bound is r n
  of_standard : (r : Rule) (n : ℕ) → standard.Broken G reach is r n → Broken G reach bound is r n

-- A rule at instruction n is told before, or is, another at instruction m: that of an earlier stage, and within a stage
-- that at a lower instruction, and at one instruction that which comes first in the order of rules. [own]
pub data Precedes (r : Rule) (n : ℕ) (q : Rule) (m : ℕ) : Type 0 where
  stage : stage_of r < stage_of q → Precedes r n q m
  instruction : stage_of r ≡ stage_of q → n < m → Precedes r n q m
  rule : stage_of r ≡ stage_of q → n ≡ m → rank_of r ≤ rank_of q → Precedes r n q m

-- Of all broken rules, this one at this instruction is told. [own]
pub record IsFirstOfAll (G : Table) (reach : Reach) (bound : ℕ) (is : List PlainInst) (r : Rule) (n : ℕ) : Type 0 where
  pub broken : Broken G reach bound is r n
  pub least : (q : Rule) (m : ℕ) → Broken G reach bound is q m → Precedes r n q m

-- No rule is broken. [own]
abbrev pub IsSound : Table → Reach → ℕ → List PlainInst → Type 0
IsSound G reach bound is = (r : Rule) (n : ℕ) → ¬ (Broken G reach bound is r n)

-- What a refusal says: out of memory, or the first broken rule with its instruction and the first word of that.
abbrev pub IsTold : Table → Reach → ℕ → List PlainInst → Stop → Type 0
IsTold G reach bound is Memory = Unit {0}
IsTold G reach bound is (Fault f) = IsFirstOfAll G reach bound is f.rule f.inst × (f.word ≡ first_word_of is f.inst)
