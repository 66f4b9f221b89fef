-- Which of the rules O3 and O5 to O13 are broken, and where. They look at sections 1 to 9. [2.16.1, 2.18.2, 3.20,
-- 3.49.5; own]
use Rattle.std.specs.Prelude.{ℕ, List}
use Rattle.spv_table.specs.Table.{Table}
use Rattle.spv_module.specs.Operand.{PlainInst}
use Rattle.spv_module.specs.declared.fault.Rule.{Rule}
use Rattle.spv_module.specs.declared.fault.Rule.TheVariants.{O3, O5, O6, O7, O8, O9, O10, O11, O12, O13}
use Rattle.spv_declarations.specs.Declarations.{IsForwardElsewhere, IsIncapable, IsOfNoMember}
use Rattle.spv_declarations.specs.Decorated.{IsHalfBuiltIn, IsInitialized, IsLinkedEntry, IsMisplaced, IsSecond}
use Rattle.spv_declarations.specs.Entry.{IsRepeated, TakesId}

-- The rule is broken at the instruction of that number. [own]
pub data Broken (G : Table) (is : List PlainInst) : Rule → ℕ → Type 0 where
  repeated : (n : ℕ) → IsRepeated is n → Broken G is O3 n
  takes_id : (n : ℕ) → TakesId is n → Broken G is O5 n
  of_no_member : (n : ℕ) → IsOfNoMember is n → Broken G is O6 n
  misplaced : (n : ℕ) → IsMisplaced is n → Broken G is O7 n
  second : (n : ℕ) → IsSecond is n → Broken G is O8 n
  linked_entry : (n : ℕ) → IsLinkedEntry is n → Broken G is O9 n
  initialized : (n : ℕ) → IsInitialized G is n → Broken G is O10 n
  half_built_in : (n : ℕ) → IsHalfBuiltIn is n → Broken G is O11 n
  forward_elsewhere : (n : ℕ) → IsForwardElsewhere is n → Broken G is O12 n
  incapable : (n : ℕ) → IsIncapable G is n → Broken G is O13 n
