use Rattle.std.proofs.Common.{◌≡◌, ℕ, List, [], ap, arith, drop, length, length-append, map, refl, subst, sym, take}
use Rattle.std.proofs.lemmas.Result.{IfOk-weaker}
use Rattle.spv_table.specs.Table.{Table}
use Rattle.spv_lines.specs.Text.{IsShownText, ShownLines, header_lines, lines_of}
use Rattle.spv_module.specs.declared.module.Inst.{Inst}
use Rattle.spv_module.specs.Module.{plain_inst, plain_insts}
use Rattle.spv_annotate.specs.Document.{IsSpelled, IsSubject, Subject, document, told_header}
use Rattle.spv_annotate.specs.Piece.{IsWritten}
use Rattle.spv_annotate.specs.Values.{AreValues}
use Rattle.spv_annotate.specs.inner.Values.{value_in}
use Rattle.spv_annotate.proofs.Shown.{shown_count}
use Rattle.spv_annotate.proofs.Texts.{text_lines}
use Rattle.spv_annotate.proofs.writer.write_text.Goals as goal

pub new-requires-clause-words : goal.new-requires-clause-words
new-requires-clause-words g c = rw c.as_slice.ensures.value c.requires.words

pub new-requires-clause-firsts : goal.new-requires-clause-firsts
new-requires-clause-firsts g c = rw c.as_slice.ensures.value c.requires.firsts

pub write_shown-requires-clause-header : goal.write_shown-requires-clause-header
write_shown-requires-clause-header g c =
    let m = c.args.module.now in
    let s = c.requires.shown in
    ap (take 5) (text_lines s.0 m.header (plain_insts m) c.args.text.now s.2 s.1)

pub write_shown-requires-clause-lines : goal.write_shown-requires-clause-lines
write_shown-requires-clause-lines g c =
    let m = c.args.module.now in
    let s = c.requires.shown in
    let l = ap length (text_lines s.0 m.header (plain_insts m) c.args.text.now s.2 s.1) in
    let d = length-append (header_lines m.header) s.2.lines in
    let n = shown_count s.0 [] (plain_insts m) s.2.lines s.2.shown in
    omega (arith, l, d, n)

pub returns : goal.returns
returns g c =
    let m = c.args.module.now in
    let h = m.header in
    let is = plain_insts m in
    let t = c.args.text.now in
    let text = g.P.Pen.text in
    let writes = g.P.Pen.writes in
    let pen = c.args.pen.now in
    let S : Subject = record {
      header = told_header c.args.reach h;
      insts = is;
      lines = drop 5 (lines_of t);
      values = value_in c.in_ok-known.known.values;
      finding = c.args.finding;
      asked = c.args.function;
    } in
    let subject : (G : Table) → IsSpelled G is → IsShownText G h is t
    → IsSubject G c.args.reach m c.args.finding c.args.function S = λ G spelled shown.
    let r : drop 5 (lines_of t) ≡ shown.lines = ap (drop 5) (text_lines G h is t shown spelled) in record {
      header = refl;
      insts = refl;
      lines = subst (λ (ls : List (List ℕ)). ShownLines G [] is ls) (sym r) shown.shown;
      values = subst (λ (xs : List Inst). AreValues (map plain_inst xs) (value_in c.in_ok-known.known.values))
          c.as_slice.ensures.value c.in_ok-known.ensures.values;
      finding = refl;
      asked = refl;
    } in
    IfOk-weaker c.write_shown.result (λ _. IsWritten text writes (document S) pen c.write_shown.new.pen)
    (λ _. (T : Subject) × ((G : Table) → IsSpelled G is → IsShownText G h is t
    → IsSubject G c.args.reach m c.args.finding c.args.function T) × IsWritten text writes (document T) pen c.write_shown.new.pen)
    (λ _ k. (S, subject, k)) c.write_shown.ensures
