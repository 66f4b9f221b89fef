use Rattle.std.proofs.Common.{◌∙◌, sym, refl}
use Rattle.spv_inst.specs.inner.Pending.{plain_slot, pending_due}
use Rattle.spv_module.specs.Module.{plain_operand}
use Rattle.spv_module.specs.Shape.{shape_of}
use Rattle.spv_inst.specs.inner.Written.{operand_words}
use Rattle.spv_printer.specs.inner.Written.{Stuck}
use Rattle.spv_inst.proofs.Shapes.{shape_leaf, shape_is_leaf}
use Rattle.spv_inst.proofs.Fit.{fit_takes, unfit_takes}
use Rattle.spv_printer.proofs.encoder.write_next.Goals as goal

pub returns-then-not-fits : goal.returns-then-not-fits
returns-then-not-fits c = λ d n.
    let G = c.args.setting.now.table.now in
    let a = c.in-Some.asked in
    let s = plain_slot a.slot in
    let l = rw c.in-Some.is at c.in_ok-asked.ensures.leaf in
    let e = rw c.in-Some.is at c.in_ok-asked.ensures.due in
    let f = sym (c.fits.ensures d n l) ∙ c.if-not-fits.true in
    Stuck.unfit s (pending_due G c.next_leaf.new.self) e (shape_is_leaf G d s a.leaf l)
    (unfit_takes a.slot.kind (shape_of G d s) (plain_operand c.args.operand.now) f)

pub returns : goal.returns
returns c = λ d n.
    let G = c.args.setting.now.table.now in
    let a = c.in-Some.asked in
    let s = plain_slot a.slot in
    let l = rw c.in-Some.is at c.in_ok-asked.ensures.leaf in
    let e = rw c.in-Some.is at c.in_ok-asked.ensures.due in
    let f = sym (c.fits.ensures d n l) ∙ c.if-not-fits.false in
    record {
      slot = s;
      rest = pending_due G c.next_leaf.new.self;
      words = operand_words (plain_operand c.args.operand.now);
      leads = e;
      takes = fit_takes G a.slot.kind d a.slot.paired a.leaf (shape_of G d s) (plain_operand c.args.operand.now)
          (shape_leaf G d s a.leaf a.leaf l refl) c.read_text.ensures f;
      due = c.in_ok-open.ensures;
      written = c.in_ok-push_operand.ensures;
    }
