use Rattle.std.proofs.Common.{[], refl, sym, append-nil}
use Rattle.std.proofs.lemmas.Result.{err_from_is_err_and}
use Rattle.spv_inst.proofs.Decoding.{listed_first, listed_all, dead_here}
use Rattle.spv_lines.specs.Text.{ShownLines}
use Rattle.spv_printer.proofs.ImageLines.{upto_next}
use Rattle.spv_printer.proofs.image.push_image.Goals as goal

pub loop-at-init : goal.loop-at-init
loop-at-init c = record {
  upto = record {
    insts = [];
    lines = [];
    sofar = listed_first c.args.table.now c.args.image.now c.len-len.ensures.least;
    count = refl;
    knows = c.in_ok-new.ensures.knows;
    shown = ShownLines.end [];
    text = sym (append-nil _);
  };
  ready = c.in_ok-new.ensures.ready;
}

pub loop-at-preserved : goal.loop-at-preserved
loop-at-preserved c =
    let u = c.loop-at.invariant.upto in
    record {
      upto = upto_next c.args.table.now c.args.image.now _ _ _ _ _ _ _ _ u (c.in_ok-at.ensures.next u.insts u.knows);
      ready = c.in_ok-at.ensures.ready;
    }

pub returns-in_err-at-clause-dead : goal.returns-in_err-at-clause-dead
returns-in_err-at-clause-dead c =
    let r = err_from_is_err_and c.from_residual-in_err-at.result c.from_residual-in_err-at.ensures.1 in
    let u = c.loop-at.invariant.upto in
    rw (r.1, r.2) (dead_here c.args.table.now c.args.image.now u.insts c.loop-at.at c.loop-at.number _ u.sofar u.count
    (c.in_err-at.ensures.dead u.insts u.knows))

pub returns-clause-added : goal.returns-clause-added
returns-clause-added c =
    let u = c.loop-at.invariant.upto in
    let h = rw c.len-len.ensures.words at c.loop-at-test.false in
    record {
      insts = u.insts;
      lines = u.lines;
      listed = listed_all c.args.table.now c.args.image.now u.insts c.loop-at.at u.sofar h;
      shown = u.shown;
      text =
          u.text;
    }
