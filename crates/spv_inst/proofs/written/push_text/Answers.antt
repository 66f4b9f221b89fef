use Rattle.std.proofs.Common.{◌≡◌, ◌-◌, ◌<◌, ◌+◌, ◌*◌, get_or, length, arith}
use Rattle.spv_inst.proofs.Octets.{text_last}
use Rattle.spv_inst.proofs.written.push_text.Goals as goal

pub returns : goal.returns
returns c =
    let t = c.args.octets.now in
    let at = c.loop-at.at in
    let a = c.octet_at.ensures in
    let b = c.octet_at-2.ensures in
    let d = c.octet_at-3.ensures in
    let w : c.word_of-2.result ≡ get_or t at 0 + 256 * get_or t (at + 1) 0 + 65536 * get_or t
    (at + 2) 0 + 16777216 * 0 = omega (arith, c.word_of-2.ensures, a, b, d) in
    let i = c.loop-at.invariant in
    let l : length t - at < 4 = omega arith in
    text_last _ c.loop-at.words.items _ t at c.word_of-2.result i.1 i.0 l w c.in_ok-push-2.ensures.items
