-- Which of the two rules is broken, and where; and what a refusal by them says. [2.16.1]
use Rattle.std.specs.Prelude.{◌≡◌, ℕ, List}
use Rattle.spv_table.specs.Table.{Table}
use Rattle.spv_module.specs.Operand.{PlainInst}
use Rattle.spv_module.specs.declared.fault.Rule.{Rule}
use Rattle.spv_module.specs.declared.fault.Rule.TheVariants.{O1, O2}
use Rattle.spv_module.specs.declared.fault.Stop.{Stop}
use Rattle.spv_module.specs.declared.fault.Stop.TheVariants.{Fault, Memory}
use Rattle.spv_layout.specs.Stage.{of_standard}
use Rattle.spv_layout.specs.First.{IsFirst}
use Rattle.spv_layout.specs.Place.{first_word_of}
use Rattle.spv_block_order.specs.Early.{IsEarlyBlock, IsEarlyUse}

-- The rule is broken at the instruction of that number. [2.16.1]
pub data Broken (G : Table) (is : List PlainInst) : Rule → ℕ → Type 0 where
  early_block : (n : ℕ) → IsEarlyBlock G is n → Broken G is O1 n
  early_use : (n : ℕ) → IsEarlyUse G is n → Broken G is O2 n

-- What a refusal says: out of memory, or the first broken of these rules and the first word of its instruction. [own]
abbrev pub IsRefusal : Table → List PlainInst → Stop → Type 0
IsRefusal G is Memory = Unit {0}
IsRefusal G is (Fault f) = IsFirst (Broken G is) of_standard f.rule f.inst × (f.word ≡ first_word_of is f.inst)
