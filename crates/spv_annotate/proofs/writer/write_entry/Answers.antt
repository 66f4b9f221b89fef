use Rattle.std.proofs.lemmas.Grind.{common_steps}
use Rattle.std.proofs.Common.{◌≡◌, ◌∙◌, ◌++◌, List, ℕ, Bool, [], ap, arith, subst, sym}
use Rattle.std.specs.Prelude.{if◌then◌else◌, is_some}
use Rattle.std.proofs.lemmas.Result.{IfOk-weaker}
use Rattle.spv_module.specs.Module.{plain_insts}
use Rattle.spv_lines.specs.Plain.{plain_of}
use Rattle.spv_annotate.specs.Document.{beginning, begun, entry, line_of, line_pieces, marks}
use Rattle.spv_annotate.specs.Called.{told_line}
use Rattle.spv_annotate.specs.Module.{inst_at, section_before}
use Rattle.spv_annotate.specs.Piece.{IsWritten, PlainPiece}
use Rattle.spv_annotate.specs.inner.Task.{subject_of}
use Rattle.spv_annotate.specs.inner.Standing.{section_behind}
use Rattle.spv_annotate.proofs.Places.{inst_read}
use Rattle.spv_annotate.proofs.Small.{plain_length}
use Rattle.spv_annotate.proofs.Writings.{written_more, written_nothing}
use Rattle.spv_annotate.proofs.writer.write_entry.Goals as goal

pub returns : goal.returns
returns g c = λ lines h.
    let text = g.P.Pen.text in
    let writes = g.P.Pen.writes in
    let m = c.args.task.now.module.now in
    let is = plain_insts m in
    let at = c.args.at in
    let S = subject_of c.args.task.now lines in
    let s = c.args.standing in
    let w = c.requires.within in
    let p = plain_length m.insts.items in
    let e = inst_read m.insts.items at c.index.result.now (omega (arith, w, p)) c.index.ensures in
    let o = ap (λ i. i.opcode) e in
    let fa = c.function_at.ensures is o c.requires.standing.function in
    let f = sym (c.is_asked.ensures at fa) ∙ c.if-not-is_asked.false in
    let st = c.requires.standing in
    let eb : begun c.index.result.now.opcode (section_behind s.before) (is_some s.function) at ≡ beginning is at =
    ap (λ z. begun z (section_behind s.before) (is_some s.function) at) (sym o)
    ∙ (ap (λ z. begun (inst_at is at).opcode z (is_some s.function) at) st.section
    ∙ ap (λ z. begun (inst_at is at).opcode (section_before is at) (is_some z) at) st.function) in
    let pen = c.args.pen.now in
    let a : IsWritten text writes (beginning is at) pen c.write_beginning.new.pen =
    subst (λ (ps : List PlainPiece). IsWritten text writes ps pen c.write_beginning.new.pen) eb
    c.in_ok-write_beginning.ensures in
    let b : IsWritten text writes (line_pieces S at (plain_of (line_of S at))) c.write_beginning.new.pen
    c.write_told.new.pen =
    subst (λ (t : List ℕ). IsWritten text writes
    (line_pieces S at (plain_of (told_line is (inst_at is at) t))) c.write_beginning.new.pen c.write_told.new.pen)
    (sym h) (c.in_ok-write_told.ensures lines) in
    let ab = written_more text writes (beginning is at)
    (line_pieces S at (plain_of (line_of S at))) pen c.write_beginning.new.pen c.write_told.new.pen a b in
    let all = beginning is at ++ line_pieces S at (plain_of (line_of S at)) ++ marks c.args.task.now.finding at in
    IfOk-weaker c.write_marks.result (λ _. IsWritten text writes
    (marks c.args.task.now.finding at) c.write_told.new.pen c.write_marks.new.pen)
    (λ _. IsWritten text writes (entry S at) pen c.write_marks.new.pen)
    (λ _ k. subst (λ (z : Bool). IsWritten text writes (if z then all else []) pen c.write_marks.new.pen) (sym f)
    (written_more text writes (beginning is at ++ line_pieces S at (plain_of (line_of S at)))
    (marks c.args.task.now.finding at) pen c.write_told.new.pen c.write_marks.new.pen ab k))
    c.write_marks.ensures

pub returns-then-not-is_asked : goal.returns-then-not-is_asked
returns-then-not-is_asked g c = λ lines h.
    let text = g.P.Pen.text in
    let writes = g.P.Pen.writes in
    let m = c.args.task.now.module.now in
    let is = plain_insts m in
    let at = c.args.at in
    let S = subject_of c.args.task.now lines in
    let w = c.requires.within in
    let p = plain_length m.insts.items in
    let e = inst_read m.insts.items at c.index.result.now (omega (arith, w, p)) c.index.ensures in
    let fa = c.function_at.ensures is (ap (λ i. i.opcode) e) c.requires.standing.function in
    let f = sym (c.is_asked.ensures at fa) ∙ c.if-not-is_asked.true in
    let all = beginning is at ++ line_pieces S at (plain_of (line_of S at)) ++ marks c.args.task.now.finding at in
    subst (λ (z : Bool). IsWritten text writes (if z then all else []) c.args.pen.now c.args.pen.now) (sym f)
    (written_nothing text writes c.args.pen.now)

pub index-requires : goal.index-requires
index-requires g c = grind (arith, common_steps)
