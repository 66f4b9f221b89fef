use Rattle.std.proofs.Common.{◌∙◌, sym, ap, refl}
use Rattle.spv_table.specs.declared.form.Leaf.TheVariants as leaf
use Rattle.spv_table.specs.declared.form.Form.TheVariants.{Leaf}
use Rattle.spv_inst.specs.inner.Pending.{plain_slot}
use Rattle.spv_inst.proofs.Shapes.{shape_leaf}
use Rattle.spv_parser.proofs.Taken.{front_refused, end_refused}
use Rattle.spv_parser.proofs.operands.take_operand.Goals as goal

pub returns-in_default-clause-refused : goal.returns-in_default-clause-refused
returns-in_default-clause-refused c = λ d a e b.
    let G = c.args.setting.now.table.now in
    let s = plain_slot c.args.asked.slot in
    rw c.in_default.is (front_refused G d s c.args.rest.now
    (sym (c.is_in_front.ensures G d a.operands e) ∙ c.if-is_in_front.true))

pub returns-in_default-behind-clause-refused : goal.returns-in_default-behind-clause-refused
returns-in_default-behind-clause-refused c = λ d a e b.
    let G = c.args.setting.now.table.now in
    let s = plain_slot c.args.asked.slot in
    end_refused G c.args.result_id d s c.args.rest.now
    (sym (c.is_in_front.ensures G d a.operands e) ∙ c.if-is_in_front.false) b c.in_default-behind.ensures

pub returns-in-Text-clause-taken : goal.returns-in-Text-clause-taken
returns-in-Text-clause-taken c = λ d a e b.
    let G = c.args.setting.now.table.now in
    let s = plain_slot c.args.asked.slot in
    rw c.in-Some-behind.ensures (c.take_text.ensures.taken c.args.result_id d a.operands
    (shape_leaf G d s leaf.Text leaf.Text (e ∙ ap Leaf c.in-Text.is) refl))

pub returns-in-Text-clause-refused : goal.returns-in-Text-clause-refused
returns-in-Text-clause-refused c = λ d a e b.
    let G = c.args.setting.now.table.now in
    let s = plain_slot c.args.asked.slot in
    rw c.in-Some-behind.ensures (c.take_text.ensures.refused c.args.result_id d
    (shape_leaf G d s leaf.Text leaf.Text (e ∙ ap Leaf c.in-Text.is) refl))

pub returns-in_default-leaf : goal.returns-in_default-leaf
returns-in_default-leaf c = record {
  taken = λ d a e b.
      let G = c.args.setting.now.table.now in
      rw c.in-Some-behind.ensures (c.take_token.ensures.taken c.args.result_id d a
      (record {
        form = e;
        no_text = c.in_default-leaf.not-Text;
        behind = sym (c.is_in_front.ensures G d a.operands e) ∙ c.if-is_in_front.false;
      }));
  refused = λ d a e b.
      let G = c.args.setting.now.table.now in
      rw c.in-Some-behind.ensures (c.take_token.ensures.refused c.args.result_id d a
      (record {
        form = e;
        no_text = c.in_default-leaf.not-Text;
        behind = sym (c.is_in_front.ensures G d a.operands e) ∙ c.if-is_in_front.false;
      }));
}
