use Rattle.std.proofs.Common.{below_more, arith}
use Rattle.std.proofs.lemmas.Bool.{false≢true, iff_false}
use Rattle.spv_versions.proofs.Numbering.{kind_within}
use Rattle.spv_versions.proofs.kinds.Kinds.is_any_hit.Goals as goal

pub loop-place-preserved : goal.loop-place-preserved
loop-place-preserved c = below_more _ _ c.loop-place.invariant
    (λ h. iff_false c.is_hit_at.ensures c.if-is_hit_at.false h)

pub returns : goal.returns
returns c = (
  λ t. absurd (false≢true t),
  λ h.
      let w = kind_within h.0 h.1.0 h.1.1 in
      absurd (c.loop-place.invariant h.0 (omega (arith, w)) h.1),
)
