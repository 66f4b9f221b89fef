use Rattle.std.proofs.Common.{refl, sym}
use Rattle.spv_table.specs.declared.form.Leaf.TheVariants as leaf
use Rattle.spv_inst.specs.inner.Reading.{between}
use Rattle.spv_printer.specs.inner.Fast.{IsQuoted}
use Rattle.spv_module.specs.Operand.{Text}
use Rattle.spv_module.specs.Shape.{alone}
use Rattle.spv_inst.proofs.Shapes.{shape_leaf}
use Rattle.spv_inst.proofs.TextOctets.{between-words}
use Rattle.spv_printer.proofs.Drafts.{drafted_more, or_none}
use Rattle.spv_printer.proofs.fast_operand.add_text.Goals as goal

pub returns : goal.returns
returns c = λ G d kind e.
    let b = between-words c.octets.result.now c.args.image.now c.args.at c.args.end c.octets.ensures.words in
    let q : IsQuoted (between c.args.image.now c.args.at c.args.end) c.args.draft.at c.in_ok-quoted.quoted.at
    c.in_ok-quoted.quoted.words c.args.buffer.now c.add_quoted.new.buffer = rw b c.in_ok-quoted.ensures in
    record {
      some = q.some;
      within = q.within;
      added = record {
        operand = Text q.octets;
        takes = λ b k i. rw (shape_leaf G b (alone kind) leaf.Text leaf.Text e refl) (q.takes kind);
        added = λ os a. drafted_more G d os
            (Text q.octets) c.args.draft _ c.args.buffer.now c.add_quoted.new.buffer c.add_quoted.auto.buffer a q.piece
            refl refl refl (sym (or_none c.args.draft.type_id)) c.requires.room;
      };
    }
