-- What shows that a rule on ids is broken at an instruction. [2.3, 2.16]
use Rattle.std.specs.Prelude.{◌≡◌, ◌<◌, ℕ, List, Some, slice_get}
use Rattle.spv_table.specs.Table.{Table}
use Rattle.spv_module.specs.Operand.{PlainInst, Result}
use Rattle.spv_module.specs.declared.fault.Rule.{Rule}
use Rattle.spv_module.specs.declared.fault.Rule.TheVariants.{D1, D2, D3, D4, D5}
use Rattle.spv_layout.specs.declared.form.Role.{Role}
use Rattle.spv_ids.specs.Definition.{IsDefinedAt, IsUsedAt, IsMentionedAt, IsLocalTo}
use Rattle.spv_ids.specs.Order.{IsInOrder, IsInScope, IsOrdered, IsScoped}
use Rattle.spv_ids.specs.Broken.{IsOutOfRange}
use Rattle.spv_evidence.specs.declared.evidence.Evidence.{Evidence}
use Rattle.spv_evidence.specs.declared.evidence.Evidence.TheVariants.{Operand, Earlier, Defined, Local}

-- Operand k of instruction n is the id, as its result.
pub record IsResultAt (is : List PlainInst) (n k x : ℕ) : Type 0 where
  pub defined : IsDefinedAt is x n
  pub operand : slice_get defined.inst.operands k ≡ Some (Result x)

-- The id is local to the function whose OpFunction is f, by its definition m.
pub record IsLocalBy (is : List PlainInst) (x m f : ℕ) : Type 0 where
  pub local : IsLocalTo is x f
  pub by : local.place ≡ m

-- It shows that the rule is broken at the instruction of that number.
pub data IsEvidence (G : Table) (bound : ℕ) (is : List PlainInst) : Rule → ℕ → Evidence → Type 0 where
  -- operand k is the result, and 0 or not below the bound
  result_out_of_range : (n k x : ℕ) → IsResultAt is n k x → IsOutOfRange bound x
      → IsEvidence G bound is D1 n (Operand k)
  -- operand k is a use of an id that is 0 or not below the bound
  use_out_of_range : (n k x : ℕ) (r : Role) → IsUsedAt G is n k x r → IsOutOfRange bound x
      → IsEvidence G bound is D1 n (Operand k)
  -- operand k mentions an id that is 0 or not below the bound
  mention_out_of_range : (n k x : ℕ) → IsMentionedAt is n k x → IsOutOfRange bound x
      → IsEvidence G bound is D1 n (Operand k)
  -- the earlier instruction m has the same result
  defined_again : (n m x : ℕ) → IsDefinedAt is x n → m < n → IsDefinedAt is x m
      → IsEvidence G bound is D2 n (Earlier m)
  -- operand k is a use of an id that no instruction has as its result
  undefined : (n k x : ℕ) (r : Role) → IsUsedAt G is n k x r → ((m : ℕ) → ¬ (IsDefinedAt is x m))
      → IsEvidence G bound is D3 n (Operand k)
  -- operand k mentions an id that no instruction has as its result
  mention_undefined : (n k x : ℕ) → IsMentionedAt is n k x → ((m : ℕ) → ¬ (IsDefinedAt is x m))
      → IsEvidence G bound is D3 n (Operand k)
  -- operand k, in section 7a or 9, is a use that is not in order, of an id that instruction m defines
  not_in_order : (n k x m : ℕ) (r : Role) → IsUsedAt G is n k x r → IsOrdered is n → ¬ (IsInOrder is n x)
      → IsDefinedAt is x m
      → IsEvidence G bound is D4 n (Defined k m)
  -- operand k, in sections 9 to 11, is a use that is not in scope, of an id that is local to the function f by its
  -- definition m
  not_in_scope : (n k x m f : ℕ) (r : Role) → IsUsedAt G is n k x r → IsScoped is n → IsLocalBy is x m f
      → ¬ (IsInScope is n x)
      → IsEvidence G bound is D5 n (Local k m f)
