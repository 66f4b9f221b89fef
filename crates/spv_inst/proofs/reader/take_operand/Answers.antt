use Rattle.std.proofs.Common.{◌≡◌, ◌<◌, ◌≤◌, ◌∙◌, sym, ap, arith}
use Rattle.spv_table.specs.Table.{kind_of}
use Rattle.spv_table.specs.declared.form.Leaf.TheVariants as leaf
use Rattle.spv_module.specs.Shape.{AsType, AsResult, AsId, AsWord, AsNumber, AsText, AsValue, AsMask, integer_shape}
use Rattle.spv_module.specs.Spelling.{Takes}
use Rattle.spv_inst.specs.Reading.{enumerants_at}
use Rattle.spv_inst.proofs.Shapes.{shape_leaf, shape_is_leaf}
use Rattle.spv_inst.proofs.Fitting.{one_taken, answer_one, answer_front, refusal_front, refusal_one, missing_front}
use Rattle.spv_inst.proofs.Fitting.{nothing_front, within_front, within_one, integer_number, integer_unpaired}
use Rattle.spv_inst.proofs.Fitting.{integer_other}
use Rattle.spv_inst.proofs.reader.take_operand.Goals as goal
use Rattle.spv_inst.proofs.reader.take_operand.Goals.{else-slot-via-then-slot+else-known-eq-SWITCH}
use Rattle.spv_inst.proofs.reader.take_operand.Goals.{else-slot-via-else-slot}

pub returns-then-at-end-clause-refused : goal.returns-then-at-end-clause-refused
returns-then-at-end-clause-refused c = λ k h e.
    let l : c.args.end ≤ c.args.at = omega arith in
    rw (c.new.ensures.rule, c.new.ensures.word) (missing_front _ _ _ _ _ _ (shape_is_leaf _ k _ c.args.leaf e) l)

pub returns-in-ResultType-clause-taken : goal.returns-in-ResultType-clause-taken
returns-in-ResultType-clause-taken c = λ k h e.
    let l : c.args.at < c.args.end = omega arith in
    one_taken _ k _ AsType _ _ _ _ _ _ _ (shape_leaf _ _ _ _ leaf.ResultType e c.in-ResultType.is)
    c.one_word.ensures.operand c.one_word.ensures.words l c.requires.fits c.word-first.ensures
    (Takes.result_type c.word-first.result)

pub returns-in-Result-clause-taken : goal.returns-in-Result-clause-taken
returns-in-Result-clause-taken c = λ k h e.
    let l : c.args.at < c.args.end = omega arith in
    one_taken _ k _ AsResult _ _ _ _ _ _ _
    (shape_leaf _ _ _ _ leaf.Result e c.in-Result.is) c.one_word-in-Result.ensures.operand
    c.one_word-in-Result.ensures.words l c.requires.fits c.word-first.ensures (Takes.result c.word-first.result)

pub returns-in-Id-clause-taken : goal.returns-in-Id-clause-taken
returns-in-Id-clause-taken c = λ k h e.
    let l : c.args.at < c.args.end = omega arith in
    one_taken _ k _ AsId _ _ _ _ _ _ _ (shape_leaf _ _ _ _ leaf.Id e c.in-Id.is) c.one_word-in-Id.ensures.operand
    c.one_word-in-Id.ensures.words l c.requires.fits c.word-first.ensures (Takes.id c.word-first.result)

pub returns-in-Word-clause-taken : goal.returns-in-Word-clause-taken
returns-in-Word-clause-taken c = λ k h e.
    let l : c.args.at < c.args.end = omega arith in
    one_taken _ k _ AsWord _ _ _ _ _ _ _ (shape_leaf _ _ _ _ leaf.Word e c.in-Word.is)
    c.one_word-in-Word.ensures.operand c.one_word-in-Word.ensures.words l c.requires.fits c.word-first.ensures
    (Takes.word c.word-first.result)

pub returns-else-slot-clause-taken : goal.returns-else-slot-clause-taken
returns-else-slot-clause-taken c = λ k h e.
    let l : c.args.at < c.args.end = omega arith in
    let word : integer_shape k c.args.slot.paired ≡ AsWord = elim c.else-slot.branch [
      | else-slot-via-then-slot+else-known-eq-SWITCH w ↦
          integer_other k c.args.slot.paired c.args.known.opcode w.if-slot.true w.if-known-eq-SWITCH.false h.opcode
      | else-slot-via-else-slot w ↦ integer_unpaired k c.args.slot.paired w.if-slot.false
    ] in
    one_taken _ k _ AsWord _ _ _ _ _ _ _ (shape_leaf _ _ _ _ leaf.Integer e c.in-Integer.is ∙ word)
    c.one_word-in-Integer.ensures.operand c.one_word-in-Integer.ensures.words l c.requires.fits c.word-first.ensures
    (Takes.word c.word-first.result)

pub returns-then-known-eq-SWITCH-clause-taken : goal.returns-then-known-eq-SWITCH-clause-taken
returns-then-known-eq-SWITCH-clause-taken c = λ k h e.
    let w = c.switch_width.ensures k h in
    answer_front _ k _ (AsNumber c.switch_width.result) c.take_number.result _
    (shape_leaf _ _ _ _ leaf.Integer e c.in-Integer.is
    ∙ integer_number k c.args.slot.paired c.args.known.opcode c.if-slot.true c.if-known-eq-SWITCH.true h.opcode
    ∙ ap AsNumber (sym w)) c.take_number.ensures.taken c.take_number.ensures.operand

pub returns-in-ContextNumber-clause-taken : goal.returns-in-ContextNumber-clause-taken
returns-in-ContextNumber-clause-taken c = λ k h e.
    let w = c.context_width.ensures k h in
    answer_front _ k _ (AsNumber c.context_width.result) c.take_number-in-ContextNumber.result _
    (shape_leaf _ _ _ _ leaf.ContextNumber e c.in-ContextNumber.is ∙ ap AsNumber (sym w))
    c.take_number-in-ContextNumber.ensures.taken c.take_number-in-ContextNumber.ensures.operand

pub returns-in-Text-clause-taken : goal.returns-in-Text-clause-taken
returns-in-Text-clause-taken c = λ k h e.
    answer_front _ k _ AsText c.take_text.result _
    (shape_leaf _ _ _ _ leaf.Text e c.in-Text.is) c.take_text.ensures.taken c.take_text.ensures.operand

pub returns-in-Value-clause-taken : goal.returns-in-Value-clause-taken
returns-in-Value-clause-taken c = λ k h e.
    let l : c.args.at < c.args.end = omega arith in
    answer_one _ k _ (AsValue (enumerants_at (kind_of c.args.scene.now.table.now c.args.slot.kind))) c.take_value.result
    _ _ _ _
    (shape_leaf _ _ _ _ leaf.Value e c.in-Value.is) l c.requires.fits c.word-first.ensures c.take_value.ensures.taken
    c.take_value.ensures.words

pub returns-in-Mask-clause-taken : goal.returns-in-Mask-clause-taken
returns-in-Mask-clause-taken c = λ k h e.
    let l : c.args.at < c.args.end = omega arith in
    answer_one _ k _ (AsMask (enumerants_at (kind_of c.args.scene.now.table.now c.args.slot.kind))) c.take_mask.result _
    _ _ _
    (shape_leaf _ _ _ _ leaf.Mask e c.in-Mask.is) l c.requires.fits c.word-first.ensures c.take_mask.ensures.taken
    c.take_mask.ensures.words

pub returns-then-known-eq-SWITCH-clause-refused : goal.returns-then-known-eq-SWITCH-clause-refused
returns-then-known-eq-SWITCH-clause-refused c = λ k h e.
    let w = c.switch_width.ensures k h in
    refusal_front _ k _ (AsNumber c.switch_width.result) c.take_number.result _
    (shape_leaf _ _ _ _ leaf.Integer e c.in-Integer.is
    ∙ integer_number k c.args.slot.paired c.args.known.opcode c.if-slot.true c.if-known-eq-SWITCH.true h.opcode
    ∙ ap AsNumber (sym w)) c.take_number.ensures.refused

pub returns-in-ContextNumber-clause-refused : goal.returns-in-ContextNumber-clause-refused
returns-in-ContextNumber-clause-refused c = λ k h e.
    let w = c.context_width.ensures k h in
    refusal_front _ k _ (AsNumber c.context_width.result) c.take_number-in-ContextNumber.result _
    (shape_leaf _ _ _ _ leaf.ContextNumber e c.in-ContextNumber.is ∙ ap AsNumber (sym w))
    c.take_number-in-ContextNumber.ensures.refused

pub returns-in-Text-clause-refused : goal.returns-in-Text-clause-refused
returns-in-Text-clause-refused c = λ k h e.
    refusal_front _ k _ AsText c.take_text.result _
    (shape_leaf _ _ _ _ leaf.Text e c.in-Text.is) c.take_text.ensures.refused

pub returns-in-Value-clause-refused : goal.returns-in-Value-clause-refused
returns-in-Value-clause-refused c = λ k h e.
    let l : c.args.at < c.args.end = omega arith in
    refusal_one _ k _ (AsValue (enumerants_at (kind_of c.args.scene.now.table.now c.args.slot.kind)))
    c.take_value.result _ _ _ _
    (shape_leaf _ _ _ _ leaf.Value e c.in-Value.is) l c.requires.fits c.word-first.ensures c.take_value.ensures.refused

pub returns-in-Mask-clause-refused : goal.returns-in-Mask-clause-refused
returns-in-Mask-clause-refused c = λ k h e.
    let l : c.args.at < c.args.end = omega arith in
    refusal_one _ k _ (AsMask (enumerants_at (kind_of c.args.scene.now.table.now c.args.slot.kind))) c.take_mask.result
    _ _ _ _
    (shape_leaf _ _ _ _ leaf.Mask e c.in-Mask.is) l c.requires.fits c.word-first.ensures c.take_mask.ensures.refused

pub returns-in-Nothing-clause-refused : goal.returns-in-Nothing-clause-refused
returns-in-Nothing-clause-refused c = λ k h e.
    let l : c.args.at < c.args.end = omega arith in
    rw (c.new-in-Nothing.ensures.rule, c.new-in-Nothing.ensures.word)
    (nothing_front _ k _ _ _ _ (shape_leaf _ _ _ _ leaf.Nothing e c.in-Nothing.is) l c.requires.fits)

pub returns-then-known-eq-SWITCH-clause-reached : goal.returns-then-known-eq-SWITCH-clause-reached
returns-then-known-eq-SWITCH-clause-reached c =
    within_front (AsNumber c.switch_width.result) c.take_number.result c.args.scene.now.image.now c.args.at c.args.end
    c.requires.fits c.take_number.ensures.refused

pub returns-in-ContextNumber-clause-reached : goal.returns-in-ContextNumber-clause-reached
returns-in-ContextNumber-clause-reached c =
    within_front (AsNumber c.context_width.result) c.take_number-in-ContextNumber.result c.args.scene.now.image.now
    c.args.at c.args.end c.requires.fits c.take_number-in-ContextNumber.ensures.refused

pub returns-in-Text-clause-reached : goal.returns-in-Text-clause-reached
returns-in-Text-clause-reached c =
    within_front AsText c.take_text.result c.args.scene.now.image.now c.args.at c.args.end c.requires.fits
    c.take_text.ensures.refused

pub returns-in-Value-clause-reached : goal.returns-in-Value-clause-reached
returns-in-Value-clause-reached c =
    let l : c.args.at < c.args.end = omega arith in
    within_one (AsValue (enumerants_at (kind_of c.args.scene.now.table.now c.args.slot.kind))) c.take_value.result _
    c.args.at c.args.end l c.take_value.ensures.refused

pub returns-in-Mask-clause-reached : goal.returns-in-Mask-clause-reached
returns-in-Mask-clause-reached c =
    let l : c.args.at < c.args.end = omega arith in
    within_one (AsMask (enumerants_at (kind_of c.args.scene.now.table.now c.args.slot.kind))) c.take_mask.result _
    c.args.at c.args.end l c.take_mask.ensures.refused
