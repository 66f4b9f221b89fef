use Rattle.std.proofs.Common.{◌≡◌, length}
use Rattle.spv_module.specs.Module.{plain_operands}
use Rattle.spv_type_kinds.specs.Operands.{ids_in}
use Rattle.spv_type_rules.specs.inner.Found.{are_typed}
use Rattle.spv_type_rules.proofs.function.are_all_typed.Given as goal

abbrev pub invariant-loop-left : goal.invariant-loop-left
invariant-loop-left l =
    are_typed l.definitions (ids_in (plain_operands l.arguments)) (plain_operands l.types) ≡ are_typed l.definitions
    (ids_in (plain_operands l.left)) (plain_operands l.due)

abbrev pub decreases-loop-left : goal.decreases-loop-left
decreases-loop-left l = length l.left
