use Rattle.std.proofs.Common.{◌≡◌, ◌++◌, ◌∙◌, ap, arith, length, string_bytes, subst, sym}
use Rattle.std.specs.Str.{IsUtf8}
use Rattle.spv_printer.proofs.Pieces.{rest_of}
use Rattle.spv_printer.proofs.Texts.{on_pushed}
use Rattle.spv_annotate.proofs.Links.{link_utf8}
use Rattle.spv_annotate.proofs.linked.push_short_link.Goals as goal

pub from_utf8_unchecked-requires : goal.from_utf8_unchecked-requires
from_utf8_unchecked-requires c =
    let e = c.put_link-start.ensures in
    let b = c.put_link-start.new.buffer in
    let l : length b ≡ 96 = omega (arith, c.put_link-start.auto.buffer) in
    let r = rest_of b c.put_link-start.result 96 l e.within in
    subst IsUtf8 (sym (r ∙ e.text)) (link_utf8 c.args.inst c.args.word.now c.args.tail.now
    (omega arith) c.utf8.word c.utf8.tail)

pub returns : goal.returns
returns c =
    let e = c.put_link-start.ensures in
    let b = c.put_link-start.new.buffer in
    let l : length b ≡ 96 = omega (arith, c.put_link-start.auto.buffer) in
    let r = rest_of b c.put_link-start.result 96 l e.within in
    let old = string_bytes c.args.out.now in
    on_pushed c.push_str.result _ (string_bytes c.push_str.new.self) old c.from_utf8_unchecked.result.now
    c.push_str.ensures.bytes
    (λ p. p ∙ ap (λ z. old ++ z) (c.from_utf8_unchecked.ensures ∙ (r ∙ e.text)))
