use Rattle.std.proofs.Common.{◌≡◌, Bool, true, false, ap, arith, nat_eq, subst, sym}
use Rattle.std.specs.Prelude.{if◌then◌else◌}
use Rattle.std.proofs.lemmas.Bool.Decides.{nat_tests}
use Rattle.std.proofs.lemmas.Result.{IfOk-weaker}
use Rattle.spv_lines.specs.Plain.{plain_of}
use Rattle.spv_module.specs.Module.{plain_insts}
use Rattle.spv_module.specs.declared.opcode.TheConstants.{EXT_INST}
use Rattle.spv_annotate.specs.declared.linked.Quoting.TheVariants.{Outside}
use Rattle.spv_annotate.specs.Called.{signature_at, told_line, unmarked}
use Rattle.spv_annotate.specs.Document.{line_pieces}
use Rattle.spv_annotate.specs.Module.{inst_at}
use Rattle.spv_annotate.specs.Piece.{IsWritten}
use Rattle.spv_annotate.specs.inner.Task.{subject_of}
use Rattle.spv_annotate.proofs.Places.{inst_read}
use Rattle.spv_annotate.proofs.Small.{plain_length}
use Rattle.spv_annotate.proofs.writer.write_told.Goals as goal

pub returns-then-index-eq-EXT_INST : goal.returns-then-index-eq-EXT_INST
returns-then-index-eq-EXT_INST g c = λ lines.
    let text = g.P.Pen.text in
    let writes = g.P.Pen.writes in
    let a = c.args.pen.now in
    let b = c.write_call.new.pen in
    let m = c.args.task.now.module.now in
    let is = plain_insts m in
    let at = c.args.at in
    let line = c.args.line.now in
    let S = subject_of c.args.task.now lines in
    let w = c.requires.within in
    let p = plain_length m.insts.items in
    let e = inst_read m.insts.items at c.index.result.now (omega (arith, w, p)) c.index.ensures in
    let q = ap (λ i. i.opcode) e in
    let t = c.if-index-eq-EXT_INST.true in
    let o : nat_eq (inst_at is at).opcode EXT_INST ≡ true = grind (arith, nat_tests) in
    let told = unmarked (signature_at is (inst_at is at)) 0 Outside line in
    IfOk-weaker c.write_call.result (λ _. IsWritten text writes (line_pieces S at (plain_of told)) a b)
    (λ _. IsWritten text writes (line_pieces S at (plain_of (told_line is (inst_at is at) line))) a b)
    (λ _ h. subst (λ (z : Bool). IsWritten text writes (line_pieces S at (plain_of (if z then told else line))) a b)
    (sym o) h)
    (c.write_call.ensures lines)

pub returns : goal.returns
returns g c = λ lines.
    let text = g.P.Pen.text in
    let writes = g.P.Pen.writes in
    let a = c.args.pen.now in
    let b = c.write_line.new.pen in
    let m = c.args.task.now.module.now in
    let is = plain_insts m in
    let at = c.args.at in
    let line = c.args.line.now in
    let S = subject_of c.args.task.now lines in
    let w = c.requires.within in
    let p = plain_length m.insts.items in
    let e = inst_read m.insts.items at c.index.result.now (omega (arith, w, p)) c.index.ensures in
    let q = ap (λ i. i.opcode) e in
    let t = c.if-index-eq-EXT_INST.false in
    let o : nat_eq (inst_at is at).opcode EXT_INST ≡ false = grind (arith, nat_tests) in
    let told = unmarked (signature_at is (inst_at is at)) 0 Outside line in
    IfOk-weaker c.write_line.result (λ _. IsWritten text writes (line_pieces S at (plain_of line)) a b)
    (λ _. IsWritten text writes (line_pieces S at (plain_of (told_line is (inst_at is at) line))) a b)
    (λ _ h. subst (λ (z : Bool). IsWritten text writes (line_pieces S at (plain_of (if z then told else line))) a b)
    (sym o) h)
    (c.write_line.ensures lines)
