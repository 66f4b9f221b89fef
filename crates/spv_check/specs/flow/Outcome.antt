-- What `flow_check` answers of a module whose places and ids are known.
use Rattle.std.specs.Prelude.{◌≡◌, ℕ, List}
use Rattle.spv_table.specs.Table.{Table}
use Rattle.spv_module.specs.Operand.{PlainInst}
use Rattle.spv_module.specs.declared.fault.Rule.{Rule}
use Rattle.spv_module.specs.declared.fault.Stop.{Stop}
use Rattle.spv_module.specs.declared.fault.Stop.TheVariants.{Fault, Memory}
use Rattle.spv_layout.specs.First.{IsFirst, IsUnbroken}
use Rattle.spv_layout.specs.Place.{first_word_of}
use Rattle.spv_layout.specs.Stage as stage
use Rattle.spv_flow.specs.branches.Broken as branch_rules
use Rattle.spv_flow.specs.declared.branches.fork.Fork.{Fork}
use Rattle.spv_flow.specs.calls.Broken as call_rules
use Rattle.spv_check.specs.declared.flow.Flow.{Flow}
use Rattle.spv_check.specs.flow.Definitions.{CountsDefinitions}

-- the number of function definitions that is kept
abbrev pub definitions_in : Flow → ℕ
definitions_in flow = flow.definitions

-- No rule of F, A and G is broken, and the number of function definitions is kept.
pub record IsFlow (fork : Fork) (G : Table) (is : List PlainInst) (flow : Flow) : Type 0 where
  pub branches : IsUnbroken (branch_rules.Broken fork G is) stage.of_branches
  pub values : IsUnbroken (branch_rules.Broken fork G is) stage.of_values
  pub calls : IsUnbroken (call_rules.Broken is) stage.of_calls
  pub definitions : CountsDefinitions is (definitions_in flow)

-- The rule at the instruction is the first that is broken: of the rules F, or where none is, of A1 and A2, or where
-- none of them is either, G1.
pub data IsFirstOfFlow (fork : Fork) (G : Table) (is : List PlainInst) (r : Rule) (n : ℕ) : Type 0 where
  of_branches : IsFirst (branch_rules.Broken fork G is) stage.of_branches r n → IsFirstOfFlow fork G is r n
  of_values : IsUnbroken (branch_rules.Broken fork G is) stage.of_branches
      → IsFirst (branch_rules.Broken fork G is) stage.of_values r n → IsFirstOfFlow fork G is r n
  of_calls : IsUnbroken (branch_rules.Broken fork G is) stage.of_branches
      → IsUnbroken (branch_rules.Broken fork G is) stage.of_values → IsFirst (call_rules.Broken is) stage.of_calls r n
      → IsFirstOfFlow fork G is r n

-- What a refusal says: out of memory, or the first broken rule and the first word of its instruction.
abbrev pub IsRefusal : Fork → Table → List PlainInst → Stop → Type 0
IsRefusal fork G is Memory = Unit {0}
IsRefusal fork G is (Fault f) = IsFirstOfFlow fork G is f.rule f.inst × (f.word ≡ first_word_of is f.inst)
