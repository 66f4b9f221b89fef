use Rattle.std.proofs.Common.{◌<◌, ◌+◌, ◌++◌, ◌∙◌, refl, ap, arith, set, length, length-set, length-take-le}
use Rattle.std.proofs.lemmas.Str.{IsUtf8-append}
use Rattle.spv_lines.specs.Line.{shown_result}
use Rattle.spv_printer.proofs.Pieces.{line_whole, rest_of}
use Rattle.spv_printer.proofs.Drafts.{characters_ended, ended_utf8}
use Rattle.spv_printer.proofs.fast_line.whole_line.Goals as goal

pub from_utf8_unchecked-requires : goal.from_utf8_unchecked-requires
from_utf8_unchecked-requires c =
    let d = c.args.draft in
    let h : d.at < length c.args.buffer.now = omega (arith, c.if-draft-buffer.false) in
    let a = c.put_octets-at.ensures.low in
    let b = c.put_result-start.ensures.low in
    let low = c.requires.low in
    let s = c.put_result-start.auto.buffer in
    let u = c.put_octets-at.auto.buffer in
    let j = length-set c.args.buffer.now d.at 10 in
    let m = length-take-le (d.at + 1) (set c.args.buffer.now d.at 10) (omega arith) in
    let r = rest_of c.put_result-start.new.buffer c.put_result-start.result (length c.put_result-start.new.buffer) refl
    (omega arith) in
    let t = rw c.as_bytes.ensures.value at c.put_octets-at.ensures.text in
    rw (r, c.put_result-start.ensures.text, t)
    (IsUtf8-append _ _ c.put_result-start.ensures.utf8
    (IsUtf8-append _ _ c.name-name.utf8 (ended_utf8 d c.args.buffer.now c.requires h)))

pub returns : goal.returns
returns c = λ G q before i further line y l k s w.
    let d = c.args.draft in
    let h : d.at < length c.args.buffer.now = omega (arith, c.if-draft-buffer.false) in
    let a = c.put_octets-at.ensures.low in
    let b = c.put_result-start.ensures.low in
    let low = c.requires.low in
    let z = c.put_result-start.auto.buffer in
    let u = c.put_octets-at.auto.buffer in
    let j = length-set c.args.buffer.now d.at 10 in
    let m = length-take-le (d.at + 1) (set c.args.buffer.now d.at 10) (omega arith) in
    let r = rest_of c.put_result-start.new.buffer c.put_result-start.result (length c.put_result-start.new.buffer) refl
    (omega arith) in
    let t = rw c.as_bytes.ensures.value at c.put_octets-at.ensures.text in
    let n = c.name-name.result.now in
    let e = r ∙ (c.put_result-start.ensures.text
    ∙ ap (λ z. shown_result d.result ++ z)
    (t ∙ ap (λ z. n ++ z) (characters_ended d c.args.buffer.now c.requires h))) in
    c.from_utf8_unchecked.ensures ∙ line_whole G before i further line n _ c.args.entry.now q d c.args.buffer.now y w l
    k s c.name-name.ensures e
