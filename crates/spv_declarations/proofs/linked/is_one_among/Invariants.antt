use Rattle.std.proofs.Common.{◌↔◌, drop}
use Rattle.spv_module.specs.Module.{plain_operands}
use Rattle.spv_declarations.specs.inner.Sets.{AnyId, IsIn}
use Rattle.spv_declarations.proofs.linked.is_one_among.Given as goal

abbrev pub invariant-loop-target : goal.invariant-loop-target
invariant-loop-target l = AnyId (IsIn l.entered) (plain_operands (drop l.target-index l.targets))
    ↔ AnyId (IsIn l.entered) (plain_operands l.targets)
