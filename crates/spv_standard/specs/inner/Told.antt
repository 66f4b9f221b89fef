-- Operands by which an instruction breaks a rule, whatever instruction it is. (For the code alone.)
use Rattle.std.specs.Prelude.{◌⊎◌, List, [], ◌∷◌}
use Rattle.spv_module.specs.Operand.{Plain}
use Rattle.spv_limits.specs.inner.Alone.{IsLong}
use Rattle.spv_versions.specs.declared.late.Late.{Late}
use Rattle.spv_versions.specs.inner.Late.{IsHitIn}

-- The operand is a text that is too long, or a value or a mask with what the version does not have; one of some is.
abbrev pub IsTold : Late → Plain → Type 0
IsTold l o = IsLong o ⊎ IsHitIn l o

abbrev pub AreTold : Late → List Plain → Type 0
AreTold l [] = ⊥
AreTold l (o ∷ os) = IsTold l o ⊎ AreTold l os
