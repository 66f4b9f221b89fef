use Rattle.std.proofs.Common.{◌≡◌, ◌∙◌, refl, sym, ap}
use Rattle.spv_table.specs.declared.form.Leaf.TheVariants as leaf
use Rattle.spv_module.specs.Module.{plain_operand}
use Rattle.spv_module.specs.Shape.{AsNumber, AsWord, integer_shape}
use Rattle.spv_inst.specs.inner.Written.{is_fit}
use Rattle.spv_inst.proofs.Fit.{by_leaf, by_shape}
use Rattle.spv_inst.proofs.Fitting.{integer_number, integer_unpaired, integer_other}
use Rattle.spv_printer.proofs.fit.fits.Goals as goal
use Rattle.spv_printer.proofs.fit.fits.Goals.{else-slot-via-then-slot+else-known-eq-SWITCH, else-slot-via-else-slot}

pub returns-in-ResultType : goal.returns-in-ResultType
returns-in-ResultType c =
    λ k h e. by_leaf _ k _ _ _ leaf.ResultType _ _ e c.in-ResultType.is
    (c.is_result_type.ensures c.args.asked.slot.kind)

pub returns-in-Result : goal.returns-in-Result
returns-in-Result c =
    λ k h e. by_leaf _ k _ _ _ leaf.Result _ _ e c.in-Result.is (c.is_result.ensures c.args.asked.slot.kind)

pub returns-in-Id : goal.returns-in-Id
returns-in-Id c = λ k h e. by_leaf _ k _ _ _ leaf.Id _ _ e c.in-Id.is (c.is_id.ensures c.args.asked.slot.kind)

pub returns-in-Word : goal.returns-in-Word
returns-in-Word c = λ k h e. by_leaf _ k _ _ _ leaf.Word _ _ e c.in-Word.is (c.is_word.ensures c.args.asked.slot.kind)

pub returns-in-Text : goal.returns-in-Text
returns-in-Text c = λ k h e. by_leaf _ k _ _ _ leaf.Text _ _ e c.in-Text.is (c.is_string.ensures c.args.asked.slot.kind)

pub returns-in-Value : goal.returns-in-Value
returns-in-Value c = λ k h e. by_leaf _ k _ _ _ leaf.Value _ _ e c.in-Value.is (c.is_value.ensures)

pub returns-in-Mask : goal.returns-in-Mask
returns-in-Mask c = λ k h e. by_leaf _ k _ _ _ leaf.Mask _ _ e c.in-Mask.is (c.is_mask.ensures)

pub returns-in-ContextNumber : goal.returns-in-ContextNumber
returns-in-ContextNumber c = λ k h e.
    by_leaf _ k _ _ _ leaf.ContextNumber _ _ e c.in-ContextNumber.is
    (c.is_number-in-ContextNumber.ensures c.args.asked.slot.kind
    ∙ ap (λ w. is_fit c.args.asked.slot.kind (AsNumber w) (plain_operand c.args.operand.now))
    (c.context_width.ensures k h))

pub returns-in-Nothing : goal.returns-in-Nothing
returns-in-Nothing c = λ k h e. by_leaf _ k _ _ _ leaf.Nothing _ _ e c.in-Nothing.is refl

pub returns-then-known-eq-SWITCH : goal.returns-then-known-eq-SWITCH
returns-then-known-eq-SWITCH c = λ k h e.
    let number = integer_number k c.args.asked.slot.paired c.args.known.opcode c.if-slot.true c.if-known-eq-SWITCH.true
    h.opcode ∙ ap AsNumber (sym (c.switch_width.ensures k h)) in
    by_leaf _ k _ _ _ leaf.Integer _ _ e c.in-Integer.is
    (by_shape _ _ _ _ _ number (c.is_number.ensures c.args.asked.slot.kind))

pub returns-else-slot : goal.returns-else-slot
returns-else-slot c = λ k h e.
    let word : integer_shape k c.args.asked.slot.paired ≡ AsWord = elim c.else-slot.branch [
      | else-slot-via-then-slot+else-known-eq-SWITCH w ↦
          integer_other k c.args.asked.slot.paired c.args.known.opcode w.if-slot.true w.if-known-eq-SWITCH.false
          h.opcode
      | else-slot-via-else-slot w ↦ integer_unpaired k c.args.asked.slot.paired w.if-slot.false
    ] in
    by_leaf _ k _ _ _ leaf.Integer _ _ e c.in-Integer.is
    (by_shape _ _ _ _ _ word (c.is_word-in-Integer.ensures c.args.asked.slot.kind))
