use Rattle.std.proofs.Common.{◌<◌, ◌≤◌, length, arith}
use Rattle.std.proofs.lemmas.List.{take_all}
use Rattle.spv_printer.proofs.Chosen.{chosen_step}
use Rattle.spv_printer.proofs.inst.show_insts.Goals as goal

pub loop-number-init : goal.loop-number-init
loop-number-init c = record {
  knows = c.in_ok-printer.ensures.knows;
  ready = c.in_ok-printer.ensures.ready;
  text = λ lines s. c.new-out.ensures.bytes;
}

pub loop-number-preserved : goal.loop-number-preserved
loop-number-preserved c = record {
  knows = c.in_ok-known.ensures.knows;
  ready = c.in_ok-known.ensures.ready;
  text = λ lines s.
      let h : c.loop-number.number-index < length c.args.numbers.now = omega arith in
      chosen_step lines c.args.numbers.now c.loop-number.number-index 0 _ _ h (c.loop-number.invariant.text lines s)
      (c.in_ok-known.ensures.line lines s);
}

pub returns : goal.returns
returns c = λ lines s.
    let h : length c.args.numbers.now ≤ c.loop-number.number-index = omega arith in
    rw (take_all c.loop-number.number-index c.args.numbers.now h) at
    (c.loop-number.invariant.text lines (rw c.as_slice-insts.ensures.value s))
