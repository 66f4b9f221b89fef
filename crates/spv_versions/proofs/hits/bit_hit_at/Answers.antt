use Rattle.std.proofs.lemmas.Bool.{iff_false}
use Rattle.spv_versions.proofs.Hitting.{bit_by}
use Rattle.spv_versions.proofs.hits.bit_hit_at.Goals as goal

pub returns-then-not-is_set : goal.returns-then-not-is_set
returns-then-not-is_set c = λ h. iff_false c.is_set.ensures c.if-not-is_set.true h.0

pub returns : goal.returns
returns c = bit_by c.args.missing.now.lines c.args.kind c.args.mask c.args.position c.bit_at.result c.number_hit.result
    (c.is_set.ensures.0 c.if-not-is_set.false) c.bit_at.ensures c.number_hit.ensures
