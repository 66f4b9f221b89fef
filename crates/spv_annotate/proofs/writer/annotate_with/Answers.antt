use Rattle.std.proofs.Common.{ℕ, List, subst, sym}
use Rattle.std.proofs.lemmas.Result.{IfOk-weaker}
use Rattle.spv_table.specs.Table.{Table}
use Rattle.spv_lines.specs.Text.{IsShownText}
use Rattle.spv_module.specs.Module.{plain_insts}
use Rattle.spv_annotate.specs.Document.{IsSpelled, IsSubject, Subject, document}
use Rattle.spv_annotate.specs.Piece.{IsWritten}
use Rattle.spv_annotate.proofs.writer.annotate_with.Goals as goal

pub new-requires : goal.new-requires
new-requires g c = rw c.as_slice.ensures.value c.requires.words

pub write_text-requires-clause-shown : goal.write_text-requires-clause-shown
write_text-requires-clause-shown g c =
    let m = c.args.module.now in
    let G = c.args.table.now in (
      G,
      c.requires.spelled,
      subst (λ (t : List ℕ). IsShownText G m.header (plain_insts m) t) (sym c.as_str.ensures.value)
          c.in_ok-text.ensures,
    )

pub returns : goal.returns
returns g c =
    let m = c.args.module.now in
    let h = m.header in
    let is = plain_insts m in
    let G = c.args.table.now in
    let text = g.P.Pen.text in
    let writes = g.P.Pen.writes in
    let pen = c.args.pen.now in
    let shown = subst (λ (t : List ℕ). IsShownText G h is t) (sym c.as_str.ensures.value) c.in_ok-text.ensures in
    IfOk-weaker c.write_text.result
    (λ _. (S : Subject) × ((T : Table) → IsSpelled T is → IsShownText T h is c.as_str.result.now
    → IsSubject T c.args.reach m c.args.finding c.args.function S) × IsWritten text writes (document S) pen c.write_text.new.pen)
    (λ _. (S : Subject) × IsSubject G c.args.reach m c.args.finding c.args.function S
    × IsWritten text writes (document S) pen c.write_text.new.pen)
    (λ _ k. (k.0, k.1 G c.requires.spelled shown, k.2)) c.write_text.ensures
