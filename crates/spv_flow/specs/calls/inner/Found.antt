-- What is gathered of a module. (For the code alone.)
use Rattle.std.specs.Prelude.{◌≡◌, ◌<◌, ℕ, List, Option, Some, None, nat_eq, if◌then◌else◌, length}
use Rattle.std.specs.Prelude.{slice_get}
use Rattle.spv_module.specs.declared.opcode.TheConstants as opcode
use Rattle.spv_module.specs.Operand.{PlainInst}
use Rattle.spv_layout.specs.declared.class.Class.{Class}
use Rattle.spv_layout.specs.declared.place.Place.{Place}
use Rattle.spv_layout.specs.Layout.{classes}
use Rattle.spv_layout.specs.Place.{IsOfFunction, IsDefinition, section_of}
use Rattle.spv_layout.specs.Plan.{IsPlaceOf}
use Rattle.spv_ids.specs.inner.Test.{id_in}
use Rattle.spv_flow.specs.declared.calls.graph.Call.{Call}
use Rattle.spv_flow.specs.calls.Calls.{IsCall, IsEntryFunction}

-- the function that an OpFunctionCall calls
abbrev pub callee_in : PlainInst → Option ℕ
callee_in i = if nat_eq i.opcode opcode.FUNCTION_CALL then id_in (slice_get i.operands 2) else None

-- the function that an OpEntryPoint names
abbrev pub entry_in : PlainInst → Option ℕ
entry_in i = if nat_eq i.opcode opcode.ENTRY_POINT then id_in (slice_get i.operands 1) else None

-- The places are those of the instructions.
pub record ArePlaces (is : List PlainInst) (places : List Place) : Type 0 where
  pub count : length places ≡ length is
  pub place : (n : ℕ) (p : Place) → slice_get places n ≡ Some p → IsPlaceOf is n p

-- Instruction n is of definition f.
pub record IsOfDefinition (is : List PlainInst) (n f : ℕ) : Type 0 where
  pub of : IsOfFunction is n f
  pub definition : IsDefinition is f

-- Instruction n is that call.
pub record IsThatCall (is : List PlainInst) (n : ℕ) (c : Call) : Type 0 where
  pub call : IsCall is n c.caller c.callee
  pub inst : c.inst ≡ n

-- These are the calls before instruction n, in order.
pub record AreCalls (is : List PlainInst) (n : ℕ) (calls : List Call) : Type 0 where
  pub sound : (k : ℕ) (c : Call) → slice_get calls k ≡ Some c → IsThatCall is c.inst c × (c.inst < n)
  pub complete : (m f g : ℕ) → m < n → IsCall is m f g → (k : ℕ) × (c : Call)
      × (slice_get calls k ≡ Some c) × (c.caller ≡ f) × (c.callee ≡ g) × (c.inst ≡ m)
  pub rising : (j k : ℕ) (c d : Call) → j < k → slice_get calls j ≡ Some c → slice_get calls k ≡ Some d
      → c.inst < d.inst

-- These are the functions of the entry points before instruction n.
pub record AreEntries (is : List PlainInst) (n : ℕ) (entries : List ℕ) : Type 0 where
  pub sound : (k e : ℕ) → slice_get entries k ≡ Some e → IsEntryFunction is e
  pub complete : (e : ℕ) (h : IsEntryFunction is e) → h.place < n → (k : ℕ) × (slice_get entries k ≡ Some e)

-- Instruction n is of a class of sections 9 to 11.
pub record IsLate (is : List PlainInst) (n : ℕ) : Type 0 where
  pub class : Class
  pub there : slice_get (classes is) n ≡ Some class
  pub late : section_of class ≡ None
