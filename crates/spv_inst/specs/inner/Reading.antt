-- What the decoder's steps say of the words left of an instruction. (For the code alone.)
use Rattle.std.specs.Prelude.{◌-◌, ℕ, List, [], take, drop, map, unwrap_or}
use Rattle.spv_table.specs.Table.{Table, kind_of}
use Rattle.spv_module.specs.declared.fault.Rule.{Rule}
use Rattle.spv_module.specs.declared.operand.Operand.{Operand}
use Rattle.spv_module.specs.Module.{plain_operand}
use Rattle.spv_module.specs.Operand.{Plain, Value, Mask, Context}
use Rattle.spv_module.specs.Shape.{Slot, alone, shape_of}
use Rattle.spv_module.specs.Spelling.{Takes, parameters_of, mask_parameters}
use Rattle.spv_module.specs.Refusal.{ShapeRefuses}
use Rattle.spv_inst.specs.Reading.{enumerants_at}

-- the words from one place up to another
abbrev pub between : List ℕ → ℕ → ℕ → List ℕ
between ws at end = take (end - at) (drop at ws)

-- the kinds of the parameters that are due after an operand
abbrev pub parameter_kinds : Table → Plain → List ℕ
parameter_kinds G (Value k x) = unwrap_or (parameters_of (enumerants_at (kind_of G k)) x) []
parameter_kinds G (Mask k x) = unwrap_or (mask_parameters (enumerants_at (kind_of G k)) x) []
parameter_kinds G _ = []

-- A slot takes the operand, so many of the words left; its parameters are due after it.
abbrev pub TakesFront : Table → Context → Slot → Operand → ℕ → List ℕ → Type 0
TakesFront G c s o n left =
    Takes s.kind (shape_of G c s) (plain_operand o) (take n left) (map alone (parameter_kinds G (plain_operand o)))

-- A slot refuses the words left.
abbrev pub RefusesFront : Table → Context → Slot → Rule → ℕ → List ℕ → Type 0
RefusesFront G c s rule n left = ShapeRefuses (shape_of G c s) left rule n
