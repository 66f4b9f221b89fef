use Rattle.std.proofs.Common.{refl}
use Rattle.spv_type_rules.proofs.lemmas.roles.Noted.{type_declared}
use Rattle.spv_type_rules.proofs.roles.role.defines_type.Goals as goal

pub returns-then-is_noted_type : goal.returns-then-is_noted_type
returns-then-is_noted_type c = (
  λ _. type_declared c.args.definitions.now c.args.id (c.is_noted_type.ensures c.if-is_noted_type.true),
  λ _. refl,
)
