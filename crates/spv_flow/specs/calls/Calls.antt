-- Which definitions call which, and which of them entry points name. A function is the number of its OpFunction. [2.4,
-- 2.16]
use Rattle.std.specs.Prelude.{◌≡◌, ℕ, List, Some, slice_get}
use Rattle.spv_module.specs.declared.opcode.TheConstants as opcode
use Rattle.spv_module.specs.Operand.{PlainInst, Id}
use Rattle.spv_layout.specs.Place.{IsOfFunction, IsDefinition}
use Rattle.spv_ids.specs.Definition.{IsDefinedAt}

-- Instruction n, in any block of definition f, is an OpFunctionCall of definition g. [3.49.9]
pub record IsCall (is : List PlainInst) (n f g : ℕ) : Type 0 where
  pub inst : PlainInst
  pub there : slice_get is n ≡ Some inst
  pub opcode : inst.opcode ≡ opcode.FUNCTION_CALL
  pub callee : ℕ
  pub named : slice_get inst.operands 2 ≡ Some (Id callee)
  pub of : IsOfFunction is n f
  pub caller : IsDefinition is f
  pub function : IsDefinedAt is callee g
  pub called : IsDefinition is g

-- Definition f calls definition g: an instruction of f, reachable or not, is an OpFunctionCall of g. [3.49.9]
pub record Calls (is : List PlainInst) (f g : ℕ) : Type 0 where
  pub place : ℕ
  pub call : IsCall is place f g

-- The function is that of an OpEntryPoint. [3.49.5]
pub record IsEntryFunction (is : List PlainInst) (f : ℕ) : Type 0 where
  pub place : ℕ
  pub inst : PlainInst
  pub there : slice_get is place ≡ Some inst
  pub opcode : inst.opcode ≡ opcode.ENTRY_POINT
  pub id : ℕ
  pub named : slice_get inst.operands 1 ≡ Some (Id id)
  pub function : IsDefinedAt is id f
