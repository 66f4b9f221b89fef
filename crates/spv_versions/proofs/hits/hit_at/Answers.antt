use Rattle.std.proofs.Common.{◌<◌, length, arith}
use Rattle.std.proofs.lemmas.Bool.{iff_false}
use Rattle.std.proofs.lemmas.Option.{slice_get-get_or}
use Rattle.spv_versions.proofs.Hitting.{hit_by, no_number}
use Rattle.spv_versions.proofs.Numbering.{as_many}
use Rattle.spv_versions.proofs.hits.hit_at.Goals as goal

pub returns-then-not-is_number : goal.returns-then-not-is_number
returns-then-not-is_number c = no_number c.args.missing.now.lines c.args.numbers.now.numbers c.args.number c.args.is_mask
    c.args.value c.args.place (iff_false c.is_number.ensures c.if-not-is_number.true)

pub returns : goal.returns
returns c =
    let many = as_many c.kinds.result.now c.kinds.ensures in
    let there : c.args.place < length c.kinds.result.now = omega (arith, many) in
    hit_by c.args.missing.now.lines c.args.numbers.now.numbers c.args.number c.args.is_mask c.args.value c.args.place
    c.kinds.result.now _ c.hit_of.result c.kinds.ensures (slice_get-get_or c.kinds.result.now c.args.place _ there)
    (c.is_number.ensures.0 c.if-not-is_number.false) c.hit_of.ensures
