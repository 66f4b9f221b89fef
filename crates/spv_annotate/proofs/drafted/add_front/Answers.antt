use Rattle.std.proofs.Common.{◌≡◌, ◌∙◌, arith, drop, length, length-drop, refl}
use Rattle.spv_printer.proofs.Pieces.{rest_of}
use Rattle.spv_annotate.specs.inner.Draft.{IsFront}
use Rattle.spv_annotate.specs.inner.Numbers.{kept}
use Rattle.spv_annotate.proofs.Fronts.{front_more, front_plain, padded_left}
use Rattle.spv_annotate.proofs.drafted.add_front.Goals as goal

pub add_part-requires-clause-line : goal.add_part-requires-clause-line
add_part-requires-clause-line c =
    let xs = c.args.line.now in
    let n = c.loop-front.front.read in
    let w = c.loop-front.invariant.front.within in
    let p = c.put_line.new.padded in
    let few = c.if-line-gt-LONGEST_LINE.false in
    let k : length p ≡ 144 = omega (arith, c.put_line.auto.padded) in
    let r = rest_of xs n (length xs) refl w in
    let s = rest_of p n 144 k (omega (arith, w, few)) in
    rw (r, s) (padded_left xs p n w c.put_line.ensures)

pub loop-front-init : goal.loop-front-init
loop-front-init c =
    let w = c.add_plain-plain.ensures.within in
    record {
      size = c.add_plain-plain.auto.buffer;
      high = omega (arith, w, c.requires.begin);
      front = front_plain (kept c.args.definitions.now) c.args.line.now c.add_plain-plain.result c.args.at
          c.args.buffer.now c.add_plain-plain.new.buffer c.add_plain-plain.ensures;
    }

pub loop-front-preserved : goal.loop-front-preserved
loop-front-preserved c =
    let d = kept c.args.definitions.now in
    let xs = c.args.line.now in
    let v = c.loop-front.invariant in
    let f = c.loop-front.front in
    let p = c.in-Some.part in
    let one = c.loop-front.buffer in
    let new = c.add_part.new.buffer in
    let r = rest_of xs f.read (length xs) refl v.front.within in
    let h = rw r at c.in-Some.ensures.high in
    let l = length-drop f.read xs in
    let few = c.if-line-gt-LONGEST_LINE.false in
    let low = c.loop-front-test.true in
    let g : IsFront d (drop f.read xs) p.read f.at p.at one new = rw r at c.in-Some.ensures.front in
    record {
      size = c.add_part.auto.buffer ∙ v.size;
      high = omega (arith, h, l, few, low);
      front = front_more d xs f.read p.read c.args.at f.at p.at c.args.buffer.now one new v.front g;
    }

pub returns-in_default-clause-front : goal.returns-in_default-clause-front
returns-in_default-clause-front c =
    let f = c.loop-front.front in
    rw (c.add_part.ensures.same c.in_default.is) c.loop-front.invariant.front
