use Rattle.std.proofs.Common.{◌≡◌, ◌<◌, ◌∙◌, ◌++◌, List, ℕ, ap, arith, length, map, subst, sym}
use Rattle.std.proofs.lemmas.Result.{IfOk-weaker}
use Rattle.spv_lines.specs.Plain.{plain_of}
use Rattle.spv_module.specs.Module.{plain_inst, plain_insts}
use Rattle.spv_annotate.specs.declared.linked.Quoting.TheVariants.{Outside}
use Rattle.spv_annotate.specs.Called.{signature_at, unmarked}
use Rattle.spv_annotate.specs.Document.{line_pieces}
use Rattle.spv_annotate.specs.Module.{inst_at}
use Rattle.spv_annotate.specs.Piece.{IsWritten}
use Rattle.spv_annotate.specs.inner.Task.{subject_of}
use Rattle.spv_annotate.proofs.Places.{read_slice, slice_length}
use Rattle.spv_annotate.proofs.writer.write_call.Goals as goal

pub returns : goal.returns
returns g c = λ lines.
    let text = g.P.Pen.text in
    let writes = g.P.Pen.writes in
    let a = c.args.pen.now in
    let b = c.write_line.new.pen in
    let m = c.args.task.now.module.now in
    let is = plain_insts m in
    let at = c.args.at in
    let line = c.args.line.now in
    let S = subject_of c.args.task.now lines in
    let xs = c.as_slice-insts.result.now in
    let v = c.as_slice-insts.ensures.value in
    let i = c.index-insts-at.result in
    let w = c.requires.within in
    let n = slice_length xs m.insts.items v in
    let l : at < length xs = omega (arith, w, n) in
    let e = read_slice xs m.insts.items at i v l c.index-insts-at.is in
    let s : c.signature_at-signature.result ≡ signature_at is (inst_at is at) =
    c.signature_at-signature.ensures
    ∙ (ap (λ z. signature_at (map plain_inst z) (plain_inst i)) v ∙ ap (signature_at is) (sym e)) in
    let told = unmarked c.signature_at-signature.result 0 Outside line in
    let t : c.as_str.result.now ≡ unmarked (signature_at is (inst_at is at)) 0 Outside line =
    c.as_str.ensures.value ∙ (c.in_ok-push_unmarked.ensures ∙ (ap (λ z. z ++ told) c.new-told.ensures.bytes
    ∙ ap (λ z. unmarked z 0 Outside line) s)) in
    IfOk-weaker c.write_line.result (λ _. IsWritten text writes (line_pieces S at (plain_of c.as_str.result.now)) a b)
    (λ _. IsWritten text writes (line_pieces S at
    (plain_of (unmarked (signature_at is (inst_at is at)) 0 Outside line))) a b)
    (λ _ h. subst (λ (z : List ℕ). IsWritten text writes (line_pieces S at (plain_of z)) a b) t h)
    (c.write_line.ensures lines)
