-- What each of the rules C1, C2, M1, E1 and E2 demands of an instruction. [2.4, 2.16.1, 3.31]
use Rattle.std.specs.Prelude.{◌≡◌, ◌<◌, ◌↔◌, ◌⊎◌, ℕ, List, Option, MatchOption, codes}
use Rattle.spv_table.specs.Table.{Table}
use Rattle.spv_table.specs.Lookups.{number_named}
use Rattle.spv_module.specs.Operand.{PlainInst}
use Rattle.spv_module.specs.declared.fault.Rule.{Rule}
use Rattle.spv_module.specs.declared.fault.Rule.TheVariants as rule
use Rattle.spv_module.specs.declared.opcode.TheConstants as opcode
use Rattle.spv_layout.specs.First.{rank_of}
use Rattle.spv_layout.specs.Place.{IsDefinition}
use Rattle.spv_ids.specs.Order.{HasOpcode}
use Rattle.spv_capabilities.specs.Capable.{Has, IsCapable}
use Rattle.spv_capabilities.specs.Memory.{IsModel}
use Rattle.spv_capabilities.specs.Entry.{IsNamed, imported_by, IsSoundEntry, IsSoundMode}

-- E2 speaks of OpEntryPoint, OpExecutionMode, OpExecutionModeId and OpFunction: an OpDecorate says that this function
-- is linked in if it is a declaration, and only then. [2.4, 3.17, 3.20; own]
pub record KeepsEntries (G : Table) (is : List PlainInst) (n : ℕ) (i : PlainInst) : Type 0 where
  pub entry : i.opcode ≡ opcode.ENTRY_POINT → IsSoundEntry is i.operands
  pub mode : (i.opcode ≡ opcode.EXECUTION_MODE) ⊎ (i.opcode ≡ opcode.EXECUTION_MODE_ID) → IsSoundMode is i.operands
  pub linkage : i.opcode ≡ opcode.FUNCTION
      → (IsNamed (imported_by (number_named G (codes "LinkageType"))) is n ↔ (¬ (IsDefinition is n)))

-- What a rule demands of the instruction i of number n; C1, M1 and E1 are asked at OpMemoryModel. C1: the module
-- has Kernel (6), and it has not Shader (1). E1: there is an OpEntryPoint, or the module has Linkage (5). The
-- other rules demand nothing here. [2.16.1; own]
abbrev pub Keeps : Table → List PlainInst → Rule → ℕ → PlainInst → Type 0
Keeps G is rule.C1 n i = i.opcode ≡ opcode.MEMORY_MODEL → (Has G is 6 × (¬ (Has G is 1)))
Keeps G is rule.C2 n i = IsCapable G is i
Keeps G is rule.M1 n i = i.opcode ≡ opcode.MEMORY_MODEL → IsModel i.operands
Keeps G is rule.E1 n i = i.opcode ≡ opcode.MEMORY_MODEL → (((p : ℕ) × HasOpcode is p opcode.ENTRY_POINT) ⊎ Has G is 5)
Keeps G is rule.E2 n i = KeepsEntries G is n i
Keeps G is _ n i = Unit {0}

-- The rule is the first of them that is broken at the instruction i of number n; or there is none, and none of them is.
abbrev pub IsFirstAt : Table → List PlainInst → ℕ → PlainInst → Option Rule → Type 0
IsFirstAt G is n i o = MatchOption o
    ((r : Rule) → Keeps G is r n i)
    (λ r. (¬ (Keeps G is r n i)) × ((q : Rule) → rank_of q < rank_of r → Keeps G is q n i))
