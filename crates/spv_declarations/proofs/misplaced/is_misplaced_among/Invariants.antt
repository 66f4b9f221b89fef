use Rattle.std.proofs.Common.{◌↔◌, drop}
use Rattle.spv_module.specs.Module.{plain_operands}
use Rattle.spv_declarations.specs.inner.Misplaced.{IsAnyMisplaced}
use Rattle.spv_declarations.specs.inner.Sets.{AnyId}
use Rattle.spv_declarations.proofs.misplaced.is_misplaced_among.Given as goal

abbrev pub invariant-loop-target : goal.invariant-loop-target
invariant-loop-target l = AnyId (IsAnyMisplaced l.definitions l.decorations)
    (plain_operands (drop l.target-index l.targets))
    ↔ AnyId (IsAnyMisplaced l.definitions l.decorations) (plain_operands l.targets)
