use Rattle.std.proofs.Common.{drop, length, refl}
use Rattle.spv_printer.proofs.Pieces.{rest_of}
use Rattle.spv_annotate.specs.inner.Draft.{IsCopied}
use Rattle.spv_annotate.specs.inner.Numbers.{kept}
use Rattle.spv_annotate.proofs.Fronts.{front_more, front_plain}
use Rattle.spv_annotate.proofs.drafted.add_part.Goals as goal

pub returns-clause-front : goal.returns-clause-front
returns-clause-front c =
    let d = kept c.args.definitions.now in
    let xs = c.args.line.now in
    let i = c.in_ok-id.id in
    let f = c.in_ok-id.ensures.front in
    let n = c.add_plain-plain.result in
    let one = c.add_id.new.buffer in
    let new = c.add_plain-plain.new.buffer in
    let r = rest_of xs i.read (length xs) refl f.within in
    let p : IsCopied (drop i.read xs) i.at n one new = rw r at c.add_plain-plain.ensures in
    front_more d xs i.read n c.args.at i.at _ c.args.buffer.now one new f
    (front_plain d (drop i.read xs) n i.at one new p)
