use Rattle.std.proofs.Common.{◌≤◌, ◌∙◌, ap, arith, get_or, length, sym}
use Rattle.std.specs.List.{list_all}
use Rattle.std.proofs.lemmas.List.{take_all}
use Rattle.spv_lines.specs.Digits.{is_digit}
use Rattle.spv_lines.proofs.Reader.{value_more}
use Rattle.spv_annotate.proofs.Fronts.{digit_high, digits_end, digits_front, digits_next}
use Rattle.spv_annotate.proofs.linked.lean_id.Goals as goal

pub loop-count-preserved : goal.loop-count-preserved
loop-count-preserved c =
    let text = c.args.text.now in
    let i = c.loop-count.count in
    let more = value_more text i c.loop-count-test.true in
    let n = c.loop-count.invariant.number in
    let d = sym c.is_digit.ensures ∙ c.if-not-is_digit.false in
    let h = digit_high (get_or text i 0) d in
    record {
      digits = digits_next text i c.loop-count-test.true d c.loop-count.invariant.digits;
      number = omega (arith, more, n);
      small = omega (arith, h);
    }

pub returns-then-not-is_digit-clause-count : goal.returns-then-not-is_digit-clause-count
returns-then-not-is_digit-clause-count c =
    digits_front c.args.text.now c.loop-count.count c.loop-count.invariant.digits c.loop-count-test.true
    (sym c.is_digit.ensures ∙ c.if-not-is_digit.true)

pub returns-clause-count : goal.returns-clause-count
returns-clause-count c =
    let text = c.args.text.now in
    let h : length text ≤ c.loop-count.count = omega arith in
    digits_end text (ap (list_all is_digit) (sym (take_all c.loop-count.count text h)) ∙ c.loop-count.invariant.digits)
