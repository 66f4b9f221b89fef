use Rattle.std.proofs.Common.{[], ◌∷◌}
use Rattle.std.proofs.lemmas.Result.{IfOk-weaker}
use Rattle.spv_annotate.specs.Piece.{Break, Comment, IsWritten, Line}
use Rattle.spv_annotate.proofs.Writings.{written_more}
use Rattle.spv_annotate.proofs.writer.write_both.Goals as goal

pub returns : goal.returns
returns g c =
    let text = g.P.Pen.text in
    let writes = g.P.Pen.writes in
    let a = c.args.pen.now in
    let line = Line c.args.at c.args.line.now in
    let note = Comment c.args.comment.now in
    let two = written_more text writes (line ∷ [])
    (note ∷ []) a c.write.new.self c.write-2.new.self c.in_ok-write.ensures c.in_ok-write-2.ensures in
    IfOk-weaker c.write-3.result (λ _. IsWritten text writes (Break ∷ []) c.write-2.new.self c.write-3.new.self)
    (λ _. IsWritten text writes (line ∷ note ∷ Break ∷ []) a c.write-3.new.self)
    (λ _ h. written_more text writes (line ∷ note ∷ []) (Break ∷ []) a c.write-2.new.self c.write-3.new.self two h)
    c.write-3.ensures
