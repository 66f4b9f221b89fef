use Rattle.std.proofs.Common.{below_more, arith}
use Rattle.spv_versions.proofs.Numbering.{kind_within}
use Rattle.spv_versions.proofs.hits.any_hit.Goals as goal

pub returns-in-Some : goal.returns-in-Some
returns-in-Some c = (c.loop-place.place, c.in-Some.ensures)

pub loop-place-preserved : goal.loop-place-preserved
loop-place-preserved c = below_more _ _ c.loop-place.invariant c.in_default.ensures

pub returns : goal.returns
returns c = λ h.
    let w = kind_within h.0 h.1.0 h.1.1 in
    c.loop-place.invariant h.0 (omega (arith, w)) h.1
