use Rattle.std.proofs.Common.{◌<◌, length, arith}
use Rattle.std.proofs.lemmas.Option.{slice_get-get_or}
use Rattle.spv_versions.proofs.Numbering.{as_many, hit_here}
use Rattle.spv_versions.proofs.kinds.Kinds.is_hit_at.Goals as goal

pub returns-then-is_number : goal.returns-then-is_number
returns-then-is_number c =
    let many = as_many c.kinds.result.now c.kinds.ensures in
    let there : c.args.place < length c.kinds.result.now = omega (arith, many) in
    hit_here c.args.missing.now.lines c.args.self.now.numbers c.args.number c.args.is_mask c.args.value c.args.place
    c.kinds.result.now _ _ c.kinds.ensures (slice_get-get_or c.kinds.result.now c.args.place _ there)
    (c.is_number.ensures.0 c.if-is_number.true) c.is_hit.ensures
