use Rattle.std.proofs.Common.{◌∙◌, sym, arith, refl, ap}
use Rattle.std.specs.Option.{option_or}
use Rattle.spv_table.specs.declared.form.Form.TheVariants.{Leaf}
use Rattle.spv_inst.proofs.Between.{take_one}
use Rattle.spv_inst.proofs.Turns.{length-between}
use Rattle.spv_printer.proofs.Drafts.{drafted_more, or_none}
use Rattle.spv_printer.proofs.fast_operand.add_operand.Goals as goal

pub returns-in-Text : goal.returns-in-Text
returns-in-Text c =
    let G = c.args.table.now in
    c.add_text.ensures G _ c.args.kind (sym (c.form_in.ensures G c.requires.ready.forms)
    ∙ (c.in-Leaf.is ∙ ap Leaf c.in-Text.is))

pub returns-in-Value : goal.returns-in-Value
returns-in-Value c =
    let G = c.args.table.now in
    let e = sym (c.form_in.ensures G c.requires.ready.forms) ∙ c.in-Leaf.is in
    let t = take_one c.args.image.now c.args.at c.args.end c.word-word.result c.requires.some c.requires.fits
    c.word-word.ensures in
    let n = length-between c.args.image.now c.args.at c.args.end c.requires.fits in
    let d = c.in_ok-label.ensures e in
    let u = c.args.draft in
    let s = c.requires.some in
    record {
      some = omega arith;
      within = omega arith;
      added = record {
        operand = d.operand;
        takes = λ b k e. rw t (d.takes b);
        added = λ os a.
            drafted_more G _ os d.operand u
            (record { at = c.in_ok-at.at; result = u.result; type_id = u.type_id }) c.args.buffer.now
            c.add_name.new.buffer c.add_name.auto.buffer a (rw d.shown c.in_ok-at.ensures) d.steady d.result refl
            (sym (or_none u.type_id) ∙ ap (λ z. option_or u.type_id z) (sym d.type_id))
            (omega (arith, c.if-buffer-lt-ROOM.false, c.if-draft-buffer.false));
      };
    }

pub returns : goal.returns
returns c =
    let G = c.args.table.now in
    let e = sym (c.form_in.ensures G c.requires.ready.forms) ∙ c.in-Leaf.is in
    let t = take_one c.args.image.now c.args.at c.args.end c.word-word.result c.requires.some c.requires.fits
    c.word-word.ensures in
    let n = length-between c.args.image.now c.args.at c.args.end c.requires.fits in
    let s = c.requires.some in
    record { some = omega arith; within = omega arith; added = rw t (c.in_ok-draft.ensures G c.args.kind e) }
