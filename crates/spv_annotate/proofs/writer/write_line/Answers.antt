use Rattle.std.proofs.Common.{List, ℕ, subst, sym}
use Rattle.std.proofs.lemmas.Result.{IfOk-weaker}
use Rattle.spv_lines.specs.Plain.{plain_of}
use Rattle.spv_annotate.specs.Document.{line_pieces}
use Rattle.spv_annotate.specs.Piece.{IsWritten}
use Rattle.spv_annotate.specs.inner.Task.{subject_of}
use Rattle.spv_annotate.proofs.Plains.{plain_same}
use Rattle.spv_annotate.proofs.writer.write_line.Goals as goal

pub returns-then-is_tame_line : goal.returns-then-is_tame_line
returns-then-is_tame_line g c = λ lines.
    let text = g.P.Pen.text in
    let writes = g.P.Pen.writes in
    let a = c.args.pen.now in
    let b = c.write_plain.new.pen in
    let S = subject_of c.args.task.now lines in
    let line = c.args.line.now in
    let h = c.is_tame_line.ensures c.if-is_tame_line.true in
    IfOk-weaker c.write_plain.result (λ _. IsWritten text writes (line_pieces S c.args.at line) a b)
    (λ _. IsWritten text writes (line_pieces S c.args.at (plain_of line)) a b)
    (λ _ k. subst (λ (t : List ℕ). IsWritten text writes (line_pieces S c.args.at t) a b) (sym (plain_same line h)) k)
    (c.write_plain.ensures lines)
