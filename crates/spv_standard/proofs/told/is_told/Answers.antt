use Rattle.std.proofs.Common.{inl, inr, refl}
use Rattle.std.proofs.lemmas.Bool.{iff_false}
use Rattle.spv_standard.proofs.told.is_told.Goals as goal

pub returns-then-is_long_text : goal.returns-then-is_long_text
returns-then-is_long_text c = λ floors. (λ _. inl (c.is_long_text.ensures.0 c.if-is_long_text.true), λ _. refl)

pub returns : goal.returns
returns c = λ floors. (
  λ t. inr ((c.is_operand_missing.ensures floors).0 t),
  λ h. elim h [
    | inl long ↦ absurd (iff_false c.is_long_text.ensures c.if-is_long_text.false long)
    | inr hit ↦ (c.is_operand_missing.ensures floors).1 hit
  ],
)
