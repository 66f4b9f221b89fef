use Rattle.std.proofs.Common.{[], refl, arith}
use Rattle.spv_lines.proofs.Quoting.{within_first, within_cut, within_end}
use Rattle.spv_lines.proofs.quoted.read_unescaped.Goals as goal

pub returns : goal.returns
returns c =
    let u = c.in-Some.inside.now in
    let v = c.as_bytes.ensures.value in
    let m = rw v at c.in-Some-memchr3.ensures in
    let front = c.split_before.result.0.now in
    let back = c.split_before.result.1.now in
    let w = within_cut u [] front u front back c.in-Some-memchr3.at
    (within_first u) c.split_before.ensures.front c.split_before.ensures.back
    (λ k l. m.0.before k (omega arith) l) refl in
    within_end u front back c.in-Some-behind.rest.now c.args.text.now w c.in-Some-behind.ensures c.in-Some.ensures
