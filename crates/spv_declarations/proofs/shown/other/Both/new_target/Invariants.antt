use Rattle.std.proofs.Common.{◌↔◌, ℕ, drop}
use Rattle.spv_module.specs.Module.{plain_operands}
use Rattle.spv_declarations.specs.Given.{HasId}
use Rattle.spv_declarations.specs.inner.Sets.{AnyId}
use Rattle.spv_declarations.specs.inner.Shown.{IsNewIn}
use Rattle.spv_declarations.proofs.shown.other.Both.new_target.Given as goal

abbrev pub invariant-loop-target : goal.invariant-loop-target
invariant-loop-target l = record {
  rest : AnyId (IsNewIn l.self l.by_restricted l.by_aliased) (plain_operands (drop l.target-index l.targets))
      ↔ AnyId (IsNewIn l.self l.by_restricted l.by_aliased) (plain_operands l.targets);
  has : (x : ℕ) → HasId (plain_operands (drop l.target-index l.targets)) x → HasId (plain_operands l.targets) x;
}
