use Rattle.std.proofs.Common.{◌↔◌, drop}
use Rattle.spv_module.specs.Module.{plain_operands}
use Rattle.spv_declarations.specs.inner.Sets.{AnyId, IsIn}
use Rattle.spv_declarations.proofs.built_in.BuiltIns.has_within.Given as goal

abbrev pub invariant-loop-member : goal.invariant-loop-member
invariant-loop-member l = AnyId (IsIn l.self.structs) (plain_operands (drop l.member-index l.members))
    ↔ AnyId (IsIn l.self.structs) (plain_operands l.members)
