use Rattle.std.proofs.Common.{◌≡◌, ◌∙◌, ◌++◌, List, ℕ, ap, subst}
use Rattle.std.proofs.lemmas.Result.{IfOk-weaker}
use Rattle.spv_lines.specs.Plain.{plain_of}
use Rattle.spv_annotate.specs.Document.{line_pieces}
use Rattle.spv_annotate.specs.Piece.{IsWritten}
use Rattle.spv_annotate.specs.inner.Task.{subject_of}
use Rattle.spv_annotate.proofs.writer.write_tamed.Goals as goal

pub returns : goal.returns
returns g c = λ lines.
    let text = g.P.Pen.text in
    let writes = g.P.Pen.writes in
    let a = c.args.pen.now in
    let b = c.write_plain.new.pen in
    let S = subject_of c.args.task.now lines in
    let plain = plain_of c.args.line.now in
    let e : c.as_str-text.result.now ≡ plain = c.as_str-text.ensures.value
    ∙ (c.in_ok-push_plain.ensures ∙ ap (λ z. z ++ plain) c.clear.ensures.bytes) in
    IfOk-weaker c.write_plain.result (λ _. IsWritten text writes (line_pieces S c.args.at c.as_str-text.result.now) a b)
    (λ _. IsWritten text writes (line_pieces S c.args.at plain) a b)
    (λ _ k. subst (λ (t : List ℕ). IsWritten text writes (line_pieces S c.args.at t) a b) e k)
    (c.write_plain.ensures lines)
