use Rattle.std.proofs.Common.{◌^◌, refl}
use Rattle.spv_versions.proofs.kinds.is_bit_missing.Goals as goal

pub returns-then-is_missing_at : goal.returns-then-is_missing_at
returns-then-is_missing_at c =
    let h = c.is_missing_at.ensures.0 c.if-is_missing_at.true in
    (λ _. (2 ^ c.loop-position.position, (c.loop-position.position, c.loop-position-test.true, h.0, refl), h.1), λ _. refl)
