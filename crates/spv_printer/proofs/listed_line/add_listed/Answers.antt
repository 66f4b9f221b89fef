use Rattle.std.proofs.Common.{◌≤◌, ◌+◌, length, refl, arith}
use Rattle.spv_module.specs.Operand.{OfType, Result, Id, Word, Value, Mask, Text, Argument, Mention}
use Rattle.spv_lines.specs.Operand.{id_text}
use Rattle.spv_printer.proofs.Drafts.{drafted_more, drafted_result}
use Rattle.spv_printer.proofs.Labels.{some_by}
use Rattle.spv_printer.proofs.Listed.{name_more, text_more}
use Rattle.spv_printer.proofs.listed_line.add_listed.Goals as goal

pub returns-in-OfType : goal.returns-in-OfType
returns-in-OfType c =
    let room : c.args.draft.at + 96 ≤ length c.args.buffer.now = omega
    (arith, c.if-buffer-lt-ROOM.false, c.if-draft-buffer.false) in
    rw c.in-OfType.is (record {
      added = λ os h. drafted_more c.args.table.now _ os
          (OfType c.in-OfType.id) c.args.draft _ c.args.buffer.now c.add_id.new.buffer c.add_id.auto.buffer h
          c.add_id.ensures refl refl refl c.or.ensures room;
    })

pub returns-in-None : goal.returns-in-None
returns-in-None c = rw c.in-Result.is (record {
  added = λ os h. drafted_result c.args.table.now _ os
      (Result c.in-Result.id) c.in-Result.id c.args.draft _ c.args.buffer.now refl c.in-None.is h refl refl refl;
})

pub returns-in-Id : goal.returns-in-Id
returns-in-Id c =
    let room : c.args.draft.at + 96 ≤ length c.args.buffer.now = omega
    (arith, c.if-buffer-lt-ROOM.false, c.if-draft-buffer.false) in
    rw c.in-Id.is (name_more c.args.table.now _ (Id c.in-Id.id)
    (id_text c.in-Id.id) c.args.draft _ c.args.buffer.now c.add_other_id.new.buffer c.add_other_id.auto.buffer room
    refl refl refl refl c.add_other_id.ensures)

pub returns-in-Word : goal.returns-in-Word
returns-in-Word c =
    let room : c.args.draft.at + 96 ≤ length c.args.buffer.now = omega
    (arith, c.if-buffer-lt-ROOM.false, c.if-draft-buffer.false) in
    rw c.in-Word.is (text_more c.args.table.now _
    (Word c.in-Word.word) c.args.draft _ c.args.buffer.now c.add_word.new.buffer c.add_word.auto.buffer room refl
    refl refl c.add_word.ensures refl refl)

pub returns-in-Number : goal.returns-in-Number
returns-in-Number c = rw c.in-Number.is (c.add_number.ensures c.args.table.now)

pub returns-in_ok-label-in-Value : goal.returns-in_ok-label-in-Value
returns-in_ok-label-in-Value c =
    let room : c.args.draft.at + 96 ≤ length c.args.buffer.now = omega
    (arith, c.if-buffer-lt-ROOM.false, c.if-draft-buffer.false) in
    let o = Value c.in-Value.kind c.in-Value.value in
    rw c.in-Value.is (some_by c.add_label.result
    (λ d a. name_more c.args.table.now _ o c.in_ok-label-in-Value.label.name.now c.args.draft d c.args.buffer.now
    c.add_label.new.buffer c.add_label.auto.buffer room refl refl refl c.in_ok-label-in-Value.ensures.0 a)
    c.add_label.ensures)

pub returns-in_ok-bits-in-Mask : goal.returns-in_ok-bits-in-Mask
returns-in_ok-bits-in-Mask c =
    let room : c.args.draft.at + 96 ≤ length c.args.buffer.now = omega
    (arith, c.if-buffer-lt-ROOM.false, c.if-draft-buffer.false) in
    let o = Mask c.in-Mask.kind c.in-Mask.value in
    rw c.in-Mask.is (some_by c.add_label-in-Mask.result
    (λ d a. name_more c.args.table.now _ o c.in_ok-bits-in-Mask.bits.name.now c.args.draft d c.args.buffer.now
    c.add_label-in-Mask.new.buffer c.add_label-in-Mask.auto.buffer room refl refl refl
    c.in_ok-bits-in-Mask.ensures.0 a) c.add_label-in-Mask.ensures)

pub returns-in_ok-at-in-Text : goal.returns-in_ok-at-in-Text
returns-in_ok-at-in-Text c =
    let room : c.args.draft.at + 96 ≤ length c.args.buffer.now = omega
    (arith, c.if-buffer-lt-ROOM.false, c.if-draft-buffer.false) in
    rw c.in-Text.is (text_more c.args.table.now _
    (Text c.in-Text.text.now) c.args.draft _ c.args.buffer.now c.add_short.new.buffer c.add_short.auto.buffer room
    refl refl refl c.in_ok-at-in-Text.ensures refl refl)

pub returns-in-Argument : goal.returns-in-Argument
returns-in-Argument c =
    let room : c.args.draft.at + 96 ≤ length c.args.buffer.now = omega
    (arith, c.if-buffer-lt-ROOM.false, c.if-draft-buffer.false) in
    rw c.in-Argument.is (name_more c.args.table.now _ (Argument c.in-Argument.id)
    (id_text c.in-Argument.id) c.args.draft _ c.args.buffer.now c.add_other_id-in-Argument.new.buffer
    c.add_other_id-in-Argument.auto.buffer room refl refl refl refl c.add_other_id-in-Argument.ensures)

pub returns-in-Mention : goal.returns-in-Mention
returns-in-Mention c =
    let room : c.args.draft.at + 96 ≤ length c.args.buffer.now = omega
    (arith, c.if-buffer-lt-ROOM.false, c.if-draft-buffer.false) in
    rw c.in-Mention.is (name_more c.args.table.now _ (Mention c.in-Mention.id)
    (id_text c.in-Mention.id) c.args.draft _ c.args.buffer.now c.add_other_id-in-Mention.new.buffer
    c.add_other_id-in-Mention.auto.buffer room refl refl refl refl c.add_other_id-in-Mention.ensures)
