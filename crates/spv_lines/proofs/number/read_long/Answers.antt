use Rattle.std.proofs.Common.{◌-◌, ◌≡◌, ◌≤◌, length, not, true, take, get_or, arith}
use Rattle.spv_lines.specs.Digits.{is_lean}
use Rattle.spv_lines.specs.Digits.{value}
use Rattle.spv_lines.proofs.Reader.{digits_more, value_more, so_far_some, so_far_none}
use Rattle.spv_lines.proofs.Numerals.{long_number, long_large}
use Rattle.spv_lines.proofs.number.read_long.Goals as goal
use Rattle.spv_lines.proofs.number.read_long.Goals.{in-Some, in-None}

pub loop-octet-preserved : goal.loop-octet-preserved
loop-octet-preserved c =
    let text = c.args.text.now in
    let i = c.loop-octet.octet-index in
    let more = value_more text i c.loop-octet-test.true in
    record {
      digits = digits_more text i c.loop-octet-test.true c.if-octet-lt48.false c.if-octet-gt57.false
          c.loop-octet.invariant.digits;
      number = elim c.match-number.branch [
        | in-Some w ↦ rw w.number-is (so_far_some c.loop-octet.number w.one_more-number.result w.in-Some.so_far
            (value (take i text)) _ (get_or text i 0 - 48) c.loop-octet.invariant.number w.in-Some.is more
            w.one_more-number.ensures)
        | in-None w ↦ so_far_none c.loop-octet.number c.match-number.number (value (take i text)) _
            (get_or text i 0 - 48) c.loop-octet.invariant.number w.in-None.is w.number-is more
      ];
    }

lean_by : (b : Rattle.std.proofs.Common.Bool) (r : Rattle.std.proofs.Common.Bool) → r ≡ not b
    → r ≡ Rattle.std.proofs.Common.false → b ≡ true
lean_by Rattle.std.proofs.Common.true r e f = Rattle.std.proofs.Common.refl
lean_by Rattle.std.proofs.Common.false r e f = cc

pub returns-in-Some-number : goal.returns-in-Some-number
returns-in-Some-number c =
    let h : length c.args.text.now ≤ c.loop-octet.octet-index = omega arith in
    long_number c.args.text.now c.loop-octet.octet-index c.in-Some-number.number c.loop-octet.number h
    (lean_by (is_lean c.args.text.now) c.is_not_lean.result c.is_not_lean.ensures c.if-is_not_lean.false)
    c.loop-octet.invariant.digits c.loop-octet.invariant.number c.in-Some-number.is

pub returns-in-None-number : goal.returns-in-None-number
returns-in-None-number c =
    let h : length c.args.text.now ≤ c.loop-octet.octet-index = omega arith in
    long_large c.args.text.now c.loop-octet.octet-index c.loop-octet.number h
    (lean_by (is_lean c.args.text.now) c.is_not_lean.result c.is_not_lean.ensures c.if-is_not_lean.false)
    c.loop-octet.invariant.digits c.loop-octet.invariant.number c.in-None-number.is
