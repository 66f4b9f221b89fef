use Rattle.std.proofs.Common.{refl}
use Rattle.spv_type_rules.proofs.roles.role.defines_value.Goals as goal

pub returns-then-is_noted_value : goal.returns-then-is_noted_value
returns-then-is_noted_value c = (λ _. c.is_noted_value.ensures c.if-is_noted_value.true, λ _. refl)
