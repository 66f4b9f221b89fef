-- The first of the rules Y2 to Y8, but for Y5, that is broken at an instruction. (The order own.) (For the code alone.)
use Rattle.std.specs.Prelude.{◌≡◌, ◌<◌, ◌≤◌, ℕ, List, Option, MatchOption}
use Rattle.spv_table.specs.Table.{Table}
use Rattle.spv_module.specs.Operand.{PlainInst}
use Rattle.spv_module.specs.Module.{plain_insts}
use Rattle.spv_module.specs.declared.fault.Rule.{Rule}
use Rattle.spv_layout.specs.First.{stage_of, rank_of}
use Rattle.spv_layout.specs.Plan.{IsPlan}
use Rattle.spv_layout.specs.Stage.{of_types}
use Rattle.spv_ids.specs.Outcome.{IsDefinitionOf, definition_in}
use Rattle.spv_type_rules.specs.declared.rules.Rules.{Rules}
use Rattle.spv_type_rules.specs.Keeps.{Keeps}

-- the instructions of the module that is judged (for the code alone)
abbrev pub rules_insts : Rules → List PlainInst
rules_insts r = r.definitions

-- its plan and ids are those of the module (for the code alone)
pub record AreRules (r : Rules) : Type 0 where
  pub same : plain_insts r.module.now ≡ rules_insts r
  pub plan : (G : Table) × IsPlan G (rules_insts r) r.plan.now
  pub ids : (x : ℕ) → IsDefinitionOf (rules_insts r) x (definition_in r.ids.now x)

-- Y5 is not asked: nothing is demanded of an operation.
abbrev pub Unasked : ℕ → PlainInst → Type 0
Unasked n i = Unit {0}

-- The rule is broken at instruction i of number n, and each that comes before it is unbroken there.
pub record IsFirstRule (is : List PlainInst) (n : ℕ) (i : PlainInst) (r : Rule) : Type 0 where
  pub of_stage : stage_of r ≡ of_types
  pub last : rank_of r ≤ 32
  pub broken : ¬ (Keeps Unasked is r n i)
  pub least : (q : Rule) → rank_of q < rank_of r → Keeps Unasked is q n i

-- The first of the rules that is broken at instruction i of number n; none where all are unbroken.
abbrev pub IsFirstHere : List PlainInst → ℕ → PlainInst → Option Rule → Type 0
IsFirstHere is n i o = MatchOption o ((q : Rule) → Keeps Unasked is q n i) (λ r. IsFirstRule is n i r)
