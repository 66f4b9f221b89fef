use Rattle.std.proofs.Common.{◌++◌, ℕ, List, ap, arith, drop, flat_map, length, length-drop, subst}
use Rattle.std.specs.Prelude.{OnOk}
use Rattle.std.proofs.lemmas.Result.{IfOk-weaker}
use Rattle.spv_lines.specs.Text.{lines_of}
use Rattle.spv_annotate.specs.Document.{document, entries, header_piece, told_header, verdict_piece}
use Rattle.spv_annotate.specs.Piece.{IsWritten}
use Rattle.spv_annotate.specs.inner.Task.{subject_of}
use Rattle.spv_annotate.proofs.Writings.{written_more}
use Rattle.spv_annotate.proofs.writer.write_shown.Goals as goal

pub write_heading-requires-clause-lines : goal.write_heading-requires-clause-lines
write_heading-requires-clause-lines g c = let l = c.requires.lines in omega (arith, l)

pub write_entries-requires-clause-lines : goal.write_entries-requires-clause-lines
write_entries-requires-clause-lines g c =
    let e = ap length c.in_ok-rest.ensures.rest in
    let d = length-drop 5 (lines_of c.args.text.now) in
    let l = c.requires.lines in
    omega (arith, e, d, l)

pub returns : goal.returns
returns g c =
    let text = g.P.Pen.text in
    let writes = g.P.Pen.writes in
    let pen = c.args.pen.now in
    let top = c.write_verdict.new.pen in
    let one = c.write_heading.new.pen in
    let last = c.write_entries.new.pen in
    let t = c.args.task.now in
    let h = told_header t.reach t.module.now.header in
    let S = subject_of t (drop 5 (lines_of c.args.text.now)) in
    let v = verdict_piece t.finding in
    let below = flat_map header_piece h ++ entries S in
    IfOk-weaker c.write_entries.result (λ _. IsWritten text writes (entries S) one last)
    (λ _. IsWritten text writes (document S) pen last)
    (λ _ k. written_more text writes v below pen top last c.in_ok-write_verdict.ensures
    (written_more text writes (flat_map header_piece h) (entries S) top one last c.in_ok-rest.ensures.written k))
    (subst (λ (ls : List (List ℕ)). OnOk c.write_entries.result
    (IsWritten text writes (entries (subject_of t ls)) one last)) c.in_ok-rest.ensures.rest c.write_entries.ensures)
