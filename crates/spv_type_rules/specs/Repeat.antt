-- Y3: types that are declared twice. [2.8]
use Rattle.std.specs.Prelude.{◌≡◌, ◌<◌, ℕ, List, Some, nat_eq, nat_le, ◌&&◌, ◌||◌, IsTrue}
use Rattle.std.specs.Prelude.{slice_get}
use Rattle.spv_module.specs.declared.opcode.TheConstants as opcode
use Rattle.spv_module.specs.Operand.{PlainInst}
use Rattle.spv_type_forms.specs.Parts.{after_result}

-- Y3 is broken at instruction n: it declares a type that may be declared once only, by OpTypeVoid, Bool, Int, Float or
-- Vector, OpTypeImage, Sampler or SampledImage, OpTypeOpaque, OpTypeFunction, Event, DeviceEvent, ReserveId, Queue or
-- Pipe, OpTypePipeStorage or NamedBarrier, and it is alike to an earlier one: of the same opcode and with the same
-- operands, the result aside. [2.8]
pub record Repeats (is : List PlainInst) (n : ℕ) (i : PlainInst) : Type 0 where
  pub once : IsTrue ((nat_le opcode.TYPE_VOID i.opcode && nat_le i.opcode opcode.TYPE_SAMPLED_IMAGE)
      || nat_eq i.opcode opcode.TYPE_OPAQUE
      || (nat_le opcode.TYPE_FUNCTION i.opcode && nat_le i.opcode opcode.TYPE_PIPE)
      || nat_eq i.opcode opcode.TYPE_PIPE_STORAGE || nat_eq i.opcode opcode.TYPE_NAMED_BARRIER)
  pub place : ℕ
  pub earlier : place < n
  pub other : PlainInst
  pub there : slice_get is place ≡ Some other
  pub alike : (i.opcode ≡ other.opcode) × (after_result i.operands ≡ after_result other.operands)
