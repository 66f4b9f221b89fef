use Rattle.std.proofs.Common.{refl, sym}
use Rattle.spv_table.specs.declared.form.Leaf.TheVariants as leaf
use Rattle.spv_module.specs.Operand.{OfType, Result, Id, Word, Number}
use Rattle.spv_module.specs.Shape.{alone}
use Rattle.spv_module.specs.Spelling.{Takes}
use Rattle.spv_inst.proofs.Shapes.{shape_leaf}
use Rattle.spv_printer.proofs.Alike.{narrow_alike, narrow_takes, number_piece}
use Rattle.spv_printer.proofs.Drafts.{drafted_alike, drafted_more, drafted_result, or_none}
use Rattle.spv_printer.proofs.Labels.{word_taken}
use Rattle.spv_printer.proofs.fast_operand.add_plain.Goals as goal

pub returns-in-ResultType : goal.returns-in-ResultType
returns-in-ResultType c = λ G kind e.
    record {
      operand = OfType c.args.word;
      takes = λ b k i. rw (shape_leaf G b (alone kind) c.args.leaf leaf.ResultType e c.in-ResultType.is)
          (Takes.result_type c.args.word);
      added = λ os h. drafted_more G _ os (OfType c.args.word) c.args.draft _ c.args.buffer.now c.add_id.new.buffer
          c.add_id.auto.buffer h c.add_id.ensures refl refl refl c.or.ensures c.requires;
    }

pub returns-in-Id : goal.returns-in-Id
returns-in-Id c = λ G kind e.
    record {
      operand = Id c.args.word;
      takes = λ b k i. rw (shape_leaf G b (alone kind) c.args.leaf leaf.Id e c.in-Id.is) (Takes.id c.args.word);
      added = λ os h. drafted_more G _ os (Id c.args.word) c.args.draft _ c.args.buffer.now c.add_id-in-Id.new.buffer
          c.add_id-in-Id.auto.buffer h c.add_id-in-Id.ensures refl refl refl
          (sym (or_none c.args.draft.type_id)) c.requires;
    }

pub returns-in-Integer : goal.returns-in-Integer
returns-in-Integer c = λ G kind e.
    record {
      operand = Word c.args.word;
      takes = λ b k i. word_taken G b kind c.args.word c.args.leaf e c.in-Integer.is;
      added = λ os h. drafted_more G _ os (Word c.args.word) c.args.draft _ c.args.buffer.now c.add_word.new.buffer
          c.add_word.auto.buffer h c.add_word.ensures refl refl refl (sym (or_none c.args.draft.type_id)) c.requires;
    }

pub returns-in-None : goal.returns-in-None
returns-in-None c = λ G kind e.
    record {
      operand = Result c.args.word;
      takes = λ b k i. rw (shape_leaf G b (alone kind) c.args.leaf leaf.Result e c.in-Result.is)
          (Takes.result c.args.word);
      added = λ os h. drafted_result G _ os
          (Result c.args.word) c.args.word c.args.draft _ c.args.buffer.now refl c.in-None.is h refl refl refl;
    }

pub returns-else-not-is_narrow : goal.returns-else-not-is_narrow
returns-else-not-is_narrow c = λ G kind e.
    let o = Number c.args.word 0 1 in
    record {
      operand = o;
      takes = λ b k i. narrow_takes G b c.args.leaf kind c.args.word e c.in-ContextNumber.is
          (rw i (c.is_narrow.ensures b.before k c.if-not-is_narrow.false));
      added = λ os h.
          drafted_alike G _ os o c.args.draft _ c.args.buffer.now c.add_word-in-ContextNumber.new.buffer
          c.add_word-in-ContextNumber.auto.buffer h
          (rw (← number_piece G c.args.word) c.add_word-in-ContextNumber.ensures)
          (λ b k m i. narrow_alike G b c.args.word m (rw i (c.is_narrow.ensures b.before k c.if-not-is_narrow.false)))
          refl refl (sym (or_none c.args.draft.type_id)) c.requires;
    }
