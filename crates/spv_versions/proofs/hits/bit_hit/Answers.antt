use Rattle.std.proofs.Common.{below_more, arith}
use Rattle.spv_versions.proofs.Hitting.{none_set, set_by}
use Rattle.spv_versions.proofs.hits.bit_hit.Goals as goal

pub returns-in-Some : goal.returns-in-Some
returns-in-Some c = set_by c.args.missing.now.lines c.args.kind c.args.mask c.loop-position.position c.in-Some.hit.number
    c.in-Some.hit.line c.loop-position-test.true c.in-Some.ensures

pub loop-position-preserved : goal.loop-position-preserved
loop-position-preserved c = below_more _ _ c.loop-position.invariant c.in_default.ensures

pub returns : goal.returns
returns c = none_set c.args.missing.now.lines c.args.kind c.args.mask c.loop-position.position (omega arith)
    c.loop-position.invariant
