use Rattle.std.proofs.Common.{refl, sym, arith}
use Rattle.spv_module.specs.Operand.{Number}
use Rattle.spv_printer.proofs.Alike.{narrow_alike, number_piece}
use Rattle.spv_printer.proofs.Drafts.{drafted_alike, or_none}
use Rattle.spv_printer.proofs.Listed.{number_is}
use Rattle.spv_printer.proofs.listed_line.add_number.Goals as goal

pub returns : goal.returns
returns c = λ G.
    let o = Number c.args.low 0 1 in
    rw (number_is c.args.low c.args.high c.args.words (omega arith) (omega arith)) (record {
      added = λ os h.
          drafted_alike G _ os o c.args.draft _ c.args.buffer.now c.add_word.new.buffer c.add_word.auto.buffer h
          (rw (← number_piece G c.args.low) c.add_word.ensures)
          (λ b k m i. narrow_alike G b c.args.low m (rw i (c.is_narrow.ensures b.before k c.if-not-is_narrow.false)))
          refl refl (sym (or_none c.args.draft.type_id)) c.requires;
    })
