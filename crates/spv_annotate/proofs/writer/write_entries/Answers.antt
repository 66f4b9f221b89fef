use Rattle.std.proofs.lemmas.Grind.{common_steps}
use Rattle.std.proofs.Common.{◌≡◌, ◌∙◌, ℕ, List, [], ap, arith, flat_map, length, length-drop, refl, rules, subst, sym}
use Rattle.std.specs.Prelude.{unwrap_or}
use Rattle.std.specs.List.{range_with_len}
use Rattle.std.proofs.lemmas.Result.{IfOk-weaker}
use Rattle.spv_layout.specs.Place.{word_count}
use Rattle.spv_lines.specs.Text.{inst_line, lines_of}
use Rattle.spv_module.specs.Module.{plain_insts}
use Rattle.spv_annotate.specs.Document.{ending, entries, entry}
use Rattle.spv_annotate.specs.Piece.{IsWritten, PlainPiece}
use Rattle.spv_annotate.specs.inner.Standing.{IsStanding}
use Rattle.spv_annotate.specs.inner.Task.{subject_of}
use Rattle.spv_annotate.proofs.Plains.{first_tame}
use Rattle.spv_annotate.proofs.Places.{few_short, read_slice, slice_length, slice_within, word_bound}
use Rattle.spv_annotate.proofs.Small.{drop_head, drop_tail, flat_range_more, no_lines, zero_by}
use Rattle.spv_annotate.proofs.Writings.{written_more, written_nothing}
use Rattle.spv_annotate.proofs.writer.write_entries.Goals as goal

pub loop-at-init : goal.loop-at-init
loop-at-init g c = record {
  text = search rules;
  rest = refl;
  tame = c.has_tame_lines-tame.ensures;
  standing = c.new-standing.ensures (plain_insts c.args.task.now.module.now);
  written = written_nothing g.P.Pen.text g.P.Pen.writes c.args.pen.now;
}

pub unreachable-requires : goal.unreachable-requires
unreachable-requires g c =
    let m = c.args.task.now.module.now in
    let ls = lines_of c.args.text.now in
    let z = zero_by (length c.loop-at.rest.now) (sym c.is_empty.ensures ∙ c.if-is_empty.true) in
    let n = ap length (sym (no_lines c.loop-at.rest.now z) ∙ c.loop-at.invariant.rest) in
    let d = length-drop c.loop-at.at ls in
    let w = slice_within c.as_slice-insts.result.now m.insts.items c.loop-at.at c.as_slice-insts.ensures.value
    c.loop-at-test.true in
    let r = c.requires.lines in
    omega (arith, n, d, w, r)

pub overflow_cast-at : goal.overflow_cast-at
overflow_cast-at g c =
    let m = c.args.task.now.module.now in
    let w = slice_within c.as_slice-insts.result.now m.insts.items c.loop-at.at c.as_slice-insts.ensures.value
    c.loop-at-test.true in
    let f = few_short (plain_insts m) c.requires.words in
    omega (arith, w, f)

pub overflow_cast-at-in-loop-at : goal.overflow_cast-at-in-loop-at
overflow_cast-at-in-loop-at g c =
    let m = c.args.task.now.module.now in
    let w = slice_within c.as_slice-insts.result.now m.insts.items c.loop-at.at c.as_slice-insts.ensures.value
    c.loop-at-test.true in
    let f = few_short (plain_insts m) c.requires.words in
    omega (arith, w, f)

pub behind-standing-requires : goal.behind-standing-requires
behind-standing-requires g c =
    let m = c.args.task.now.module.now in
    let is = plain_insts m in
    let at = c.loop-at.at in
    let v = c.as_slice-insts.ensures.value in
    let w = slice_within c.as_slice-insts.result.now m.insts.items at v c.loop-at-test.true in
    let e = ap word_count (read_slice c.as_slice-insts.result.now m.insts.items at c.index-insts-at.result v
    c.loop-at-test.true c.index-insts-at.is) in
    let b = word_bound is at w c.requires.words in
    let s = c.loop-at.invariant.standing.word in
    record { words = omega (arith, e, b, s) }

pub write_entry-requires-clause-tame : goal.write_entry-requires-clause-tame
write_entry-requires-clause-tame g c =
    λ t. (first_tame c.split_line.result.0.now (lines_of c.split_line.result.1.now)
    (lines_of c.loop-at.rest.now) c.split_line.ensures.lines (c.loop-at.invariant.tame t)).0

pub loop-at-preserved : goal.loop-at-preserved
loop-at-preserved g c =
    let m = c.args.task.now.module.now in
    let is = plain_insts m in
    let at = c.loop-at.at in
    let ls = lines_of c.args.text.now in
    let line = c.split_line.result.0.now in
    let further = c.split_line.result.1.now in
    let S = subject_of c.args.task.now ls in
    let text = g.P.Pen.text in
    let writes = g.P.Pen.writes in
    let v = c.as_slice-insts.ensures.value in
    let w = slice_within c.as_slice-insts.result.now m.insts.items at v c.loop-at-test.true in
    let e = read_slice c.as_slice-insts.result.now m.insts.items at c.index-insts-at.result v c.loop-at-test.true
    c.index-insts-at.is in
    let d = sym c.loop-at.invariant.rest ∙ c.split_line.ensures.lines in
    let h : inst_line ls at ≡ line = ap (λ o. unwrap_or o []) (drop_head at ls (lines_of further) line d) in
    let more = written_more text writes (flat_map (entry S) (range_with_len 0 at))
    (entry S at) c.args.pen.now c.loop-at.pen c.write_entry.new.pen c.loop-at.invariant.written
    (c.in_ok-write_entry.ensures ls h) in
    record {
      text = search rules;
      rest = sym (drop_tail at ls (lines_of further) line d);
      tame = λ t. (first_tame line (lines_of further) (lines_of c.loop-at.rest.now) c.split_line.ensures.lines
          (c.loop-at.invariant.tame t)).1;
      standing = c.behind-standing.ensures is w e c.loop-at.invariant.standing;
      written = subst (λ (ps : List PlainPiece). IsWritten text writes ps c.args.pen.now c.write_entry.new.pen)
          (sym (flat_range_more (entry S) at)) more;
    }

pub write_ending-requires-clause-few : goal.write_ending-requires-clause-few
write_ending-requires-clause-few g c =
    let f = few_short (plain_insts c.args.task.now.module.now) c.requires.words in
    omega (arith, f)

pub write_ending-requires-clause-standing : goal.write_ending-requires-clause-standing
write_ending-requires-clause-standing g c =
    let m = c.args.task.now.module.now in
    let s = slice_length c.as_slice-insts.result.now m.insts.items c.as_slice-insts.ensures.value in
    let a = c.loop-at.auto.at-end in
    let t = c.loop-at-test.false in
    let e : c.loop-at.at ≡ length (plain_insts m) = omega (arith, s, a, t) in
    subst (λ (n : ℕ). IsStanding (plain_insts m) n c.loop-at.standing) e c.loop-at.invariant.standing

pub returns : goal.returns
returns g c =
    let m = c.args.task.now.module.now in
    let ls = lines_of c.args.text.now in
    let S = subject_of c.args.task.now ls in
    let text = g.P.Pen.text in
    let writes = g.P.Pen.writes in
    let pen = c.args.pen.now in
    let s = slice_length c.as_slice-insts.result.now m.insts.items c.as_slice-insts.ensures.value in
    let a = c.loop-at.auto.at-end in
    let t = c.loop-at-test.false in
    let e : c.loop-at.at ≡ length (plain_insts m) = omega (arith, s, a, t) in
    let front : IsWritten text writes (flat_map (entry S) (range_with_len 0 (length (plain_insts m)))) pen
    c.loop-at.pen =
    subst (λ (n : ℕ). IsWritten text writes (flat_map (entry S) (range_with_len 0 n)) pen c.loop-at.pen) e
    c.loop-at.invariant.written in
    IfOk-weaker c.write_ending.result (λ _. IsWritten text writes (ending S) c.loop-at.pen c.write_ending.new.pen)
    (λ _. IsWritten text writes (entries S) pen c.write_ending.new.pen)
    (λ _ k. written_more text writes (flat_map (entry S) (range_with_len 0 (length (plain_insts m))))
    (ending S) pen c.loop-at.pen c.write_ending.new.pen front k)
    (c.write_ending.ensures ls)

pub write_entry-requires-clause-within : goal.write_entry-requires-clause-within
write_entry-requires-clause-within g c = grind (arith, common_steps)
