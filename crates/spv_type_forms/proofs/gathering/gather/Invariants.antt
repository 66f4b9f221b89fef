use Rattle.std.proofs.Common.{◌≡◌, ◌≤◌, ◌++◌, drop, take, length}
use Rattle.std.specs.Prelude.{option_map}
use Rattle.spv_module.specs.Module.{plain_operands}
use Rattle.spv_type_kinds.specs.Operands.{ids_in}
use Rattle.spv_type_forms.proofs.gathering.gather.Given as goal
use Rattle.spv_type_forms.specs.Values.{types_of}

abbrev pub invariant-loop-operand : goal.invariant-loop-operand
invariant-loop-operand l = (l.count ≤ 6) × (length l.types ≡ 6)
    × (types_of l.definitions (ids_in (plain_operands l.operands)) ≡ option_map (λ us. take l.count l.types ++ us)
    (types_of l.definitions (ids_in (plain_operands (drop l.operand-index l.operands)))))
