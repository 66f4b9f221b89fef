use Rattle.std.proofs.Common.{arith}
use Rattle.std.proofs.lemmas.Str.{IsCharBoundary-after_ascii}
use Rattle.spv_lines.proofs.split.behind.Goals as goal

pub range_from-requires : goal.range_from-requires
range_from-requires c = λ _.
    let v = c.as_bytes.ensures.value in
    let n = rw v at c.in-len1-up.len_at_least in
    let e = rw v at c.if-first-octet.true in
    let q = c.requires in
    IsCharBoundary-after_ascii c.args.text.now 0 c.utf8.text (omega (arith, n)) (omega (arith, e, q))
