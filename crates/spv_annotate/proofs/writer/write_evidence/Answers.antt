use Rattle.std.proofs.Common.{◌++◌, ◌∙◌, ap, append_assoc, arith, flat_map, rules, sym}
use Rattle.std.proofs.lemmas.Grind.{common_steps}
use Rattle.spv_lines.specs.Text.{lines_of}
use Rattle.spv_annotate.specs.Document.{mark_piece}
use Rattle.spv_annotate.proofs.Writings.{written_more}
use Rattle.spv_annotate.proofs.writer.write_evidence.Goals as goal

pub loop-rest-preserved : goal.loop-rest-preserved
loop-rest-preserved g c =
    let v = c.loop-rest.invariant in
    let line = c.split_line.result.0.now in
    let further = c.split_line.result.1.now in
    record {
      text = search rules;
      done = v.done ++ mark_piece line;
      written = written_more g.P.Pen.text g.P.Pen.writes v.done
          (mark_piece line) c.args.pen.now c.loop-rest.pen c.write_mark.new.pen v.written c.in_ok-write_mark.ensures;
      left = append_assoc v.done (mark_piece line) (flat_map mark_piece (lines_of further))
          ∙ (ap (λ ls. v.done ++ flat_map mark_piece ls) (sym c.split_line.ensures.lines) ∙ v.left);
    }

pub write_mark-requires-text-line : goal.write_mark-requires-text-line
write_mark-requires-text-line g c = grind (arith, common_steps)

pub returns : goal.returns
returns g c = grind (arith, common_steps)
