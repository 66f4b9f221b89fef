use Rattle.std.proofs.Common.{◌+◌, ◌∙◌, arith, length, refl, subst, sym}
use Rattle.std.specs.Str.{IsUtf8}
use Rattle.spv_printer.proofs.Pieces.{rest_of}
use Rattle.spv_annotate.proofs.Buffers.{place_left, place_utf8}
use Rattle.spv_annotate.proofs.comment.place_in.Goals as goal

pub from_utf8_unchecked-requires : goal.from_utf8_unchecked-requires
from_utf8_unchecked-requires c =
    let e = c.put_place-left.ensures in
    let b = c.put_place-left.new.buffer in
    let few = c.requires.few in
    let l = c.put_place-left.auto.buffer ∙ c.requires.size in
    let r = rest_of b (c.put_place-left.result + c.args.omitted) (length b) refl (omega (arith, l, e.within, few)) in
    subst IsUtf8 (sym (r ∙ place_left b c.put_place-left.result c.args.omitted c.args.at c.args.word e.text few))
    (place_utf8 c.args.omitted c.args.at c.args.word (omega arith) (omega arith))

pub returns : goal.returns
returns c =
    let e = c.put_place-left.ensures in
    let b = c.put_place-left.new.buffer in
    let few = c.requires.few in
    let l = c.put_place-left.auto.buffer ∙ c.requires.size in
    let r = rest_of b (c.put_place-left.result + c.args.omitted) (length b) refl (omega (arith, l, e.within, few)) in
    c.from_utf8_unchecked.ensures ∙ (r ∙ place_left b c.put_place-left.result c.args.omitted c.args.at c.args.word
    e.text few)
