use Rattle.std.proofs.Common.{◌∙◌, [], ◌∷◌, ap, arith, flat_map, length, length-drop, rules, sym, take}
use Rattle.spv_lines.specs.Text.{lines_of}
use Rattle.spv_annotate.specs.Document.{header_piece}
use Rattle.spv_annotate.specs.Piece.{Break, Header}
use Rattle.spv_annotate.proofs.Small.{drop_tail, flat_tail, no_lines, zero_by}
use Rattle.spv_annotate.proofs.Writings.{written_more}
use Rattle.spv_annotate.proofs.writer.write_header.Goals as goal

pub unreachable-requires : goal.unreachable-requires
unreachable-requires g c =
    let ls = lines_of c.args.text.now in
    let z = zero_by (length c.loop-done.rest.now) (sym c.is_empty.ensures ∙ c.if-is_empty.true) in
    let n = ap length (sym (no_lines c.loop-done.rest.now z) ∙ c.loop-done.invariant.rest) in
    let d = length-drop c.loop-done.done ls in
    let r = c.requires in
    let t = c.loop-done-test.true in
    omega (arith, n, d, r, t)

pub loop-done-preserved : goal.loop-done-preserved
loop-done-preserved g c =
    let ls = lines_of c.args.text.now in
    let line = c.split_line.result.0.now in
    let e = sym c.loop-done.invariant.rest ∙ c.split_line.ensures.lines in
    let text = g.P.Pen.text in
    let writes = g.P.Pen.writes in
    let two = written_more text writes (Header line ∷ [])
    (Break ∷ []) c.loop-done.pen c.write.new.self c.write-in-loop-done.new.self c.in_ok-write.ensures
    c.in_ok-write-2.ensures in
    let all = written_more text writes (flat_map header_piece (take c.loop-done.done ls))
    (header_piece line) c.args.pen.now c.loop-done.pen c.write-in-loop-done.new.self c.loop-done.invariant.written
    two in
    record {
      text = search rules;
      within = omega arith;
      rest = sym (drop_tail c.loop-done.done ls (lines_of c.split_line.result.1.now) line e);
      written = rw (flat_tail header_piece c.loop-done.done ls (lines_of c.split_line.result.1.now) line e) all;
    }
