use Rattle.std.proofs.Common.{◌↔◌, drop}
use Rattle.spv_module.specs.Module.{plain_operands}
use Rattle.spv_declarations.specs.Given.{HasId}
use Rattle.spv_declarations.proofs.shown.ids.is_target.Given as goal

abbrev pub invariant-loop-target : goal.invariant-loop-target
invariant-loop-target l =
    HasId (plain_operands (drop l.target-index l.targets)) l.x ↔ HasId (plain_operands l.targets) l.x
