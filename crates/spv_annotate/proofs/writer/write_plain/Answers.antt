use Rattle.std.proofs.Common.{◌≡◌, ◌∙◌, ◌++◌, List, ℕ, [], ◌∷◌, ap, arith, length, subst}
use Rattle.std.proofs.lemmas.Result.{IfOk-weaker}
use Rattle.spv_annotate.specs.Document.{line_pieces}
use Rattle.spv_annotate.specs.Module.{inst_at}
use Rattle.spv_annotate.specs.Piece.{Break, Comment, IsWritten, Line}
use Rattle.spv_annotate.specs.Notes.{gap, notes, place_text}
use Rattle.spv_annotate.specs.inner.Task.{subject_of}
use Rattle.spv_annotate.specs.inner.Values.{value_in}
use Rattle.spv_module.specs.Module.{plain_insts}
use Rattle.spv_annotate.proofs.Places.{inst_read}
use Rattle.spv_annotate.proofs.Noteless.{bare_comment}
use Rattle.spv_annotate.proofs.Small.{plain_length}
use Rattle.spv_annotate.proofs.writer.write_plain.Goals as goal

pub returns : goal.returns
returns g c = λ lines.
    let text = g.P.Pen.text in
    let writes = g.P.Pen.writes in
    let a = c.args.pen.now in
    let b = c.write_both.new.pen in
    let at = c.args.at in
    let line = c.args.line.now in
    IfOk-weaker c.write_both.result (λ _. IsWritten text writes
    (Line at line ∷ Comment c.as_str.result.now ∷ Break ∷ []) a b)
    (λ _. IsWritten text writes (line_pieces (subject_of c.args.task.now lines) at line) a b)
    (λ _ h. subst (λ (t : List ℕ). IsWritten text writes (Line at line ∷ Comment t ∷ Break ∷ []) a b)
    (c.as_str.ensures.value ∙ c.in_ok-draft_comment.ensures) h)
    c.write_both.ensures

pub returns-then-is_bare : goal.returns-then-is_bare
returns-then-is_bare g c = λ lines.
    let text = g.P.Pen.text in
    let writes = g.P.Pen.writes in
    let a = c.args.pen.now in
    let b = c.write_bare.new.pen in
    let at = c.args.at in
    let line = c.args.line.now in
    let m = c.args.task.now.module.now in
    let is = plain_insts m in
    let value = value_in c.args.task.now.known.now.values at in
    let w = c.requires.within in
    let p = plain_length m.insts.items in
    let e = inst_read m.insts.items at c.index.result.now (omega (arith, w, p)) c.index.ensures in
    let n : notes is value at (inst_at is at) ≡ [] = ap (notes is value at) e
    ∙ c.is_bare.ensures is c.requires.known c.if-is_bare.true in
    IfOk-weaker c.write_bare.result (λ _. IsWritten text writes
    (Line at line ∷ Comment (gap (length line) ++ place_text at c.args.word) ∷ Break ∷ []) a b)
    (λ _. IsWritten text writes (line_pieces (subject_of c.args.task.now lines) at line) a b)
    (λ _ h. subst (λ (t : List ℕ). IsWritten text writes (Line at line ∷ Comment t ∷ Break ∷ []) a b)
    (bare_comment is value at c.args.word line c.requires.word n) h)
    c.write_bare.ensures
