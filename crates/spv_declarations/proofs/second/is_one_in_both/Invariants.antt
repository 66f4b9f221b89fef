use Rattle.std.proofs.Common.{◌↔◌, drop}
use Rattle.spv_module.specs.Module.{plain_operands}
use Rattle.spv_declarations.specs.inner.Sets.{AnyId, IsIn}
use Rattle.spv_declarations.proofs.second.is_one_in_both.Given as goal

abbrev pub invariant-loop-target : goal.invariant-loop-target
invariant-loop-target l = AnyId (λ x. IsIn l.one x × IsIn l.other x) (plain_operands (drop l.target-index l.targets))
    ↔ AnyId (λ x. IsIn l.one x × IsIn l.other x) (plain_operands l.targets)
