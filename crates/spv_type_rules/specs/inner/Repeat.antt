-- What Y3 asks, by names of its own. (For the code alone.)
use Rattle.std.specs.Prelude.{◌≡◌, ℕ, Bool, nat_eq, nat_le, ◌&&◌, ◌||◌}
use Rattle.spv_module.specs.declared.opcode.TheConstants as opcode
use Rattle.spv_module.specs.Operand.{PlainInst}
use Rattle.spv_type_forms.specs.Parts.{after_result}

-- OpTypeVoid to OpTypeSampledImage, OpTypeOpaque, OpTypeFunction to OpTypePipe, OpTypePipeStorage and
-- OpTypeNamedBarrier [2.8]
abbrev pub is_declared_once : ℕ → Bool
is_declared_once n =
    (nat_le opcode.TYPE_VOID n && nat_le n opcode.TYPE_SAMPLED_IMAGE) || nat_eq n opcode.TYPE_OPAQUE
    || (nat_le opcode.TYPE_FUNCTION n && nat_le n opcode.TYPE_PIPE)
    || nat_eq n opcode.TYPE_PIPE_STORAGE || nat_eq n opcode.TYPE_NAMED_BARRIER

-- the same opcode and the same operands, the result aside [2.8]
abbrev pub AreAlike : PlainInst → PlainInst → Type 0
AreAlike i j = (i.opcode ≡ j.opcode) × (after_result i.operands ≡ after_result j.operands)
