use Rattle.std.proofs.Common.{◌∙◌, arith, sym}
use Rattle.spv_fault_json.proofs.Quieted.{late_first, late_long, other_first, pushed_first}
use Rattle.spv_fault_json.proofs.quiet.push_first.Goals as goal

pub returns-then-is_late : goal.returns-then-is_late
returns-then-is_late c =
    let text = c.args.text.now in
    let e = rw c.second_of-second.ensures at (sym c.is_late.ensures ∙ c.if-is_late.true) in
    record {
      added = pushed_first text _ _ _ 2 (late_first text e)
          (rw c.second_of-second.ensures at c.in_ok-push_escape.ensures);
      some = omega arith;
      fits = late_long text e;
    }

pub returns : goal.returns
returns c =
    let text = c.args.text.now in
    let e = rw c.second_of-second.ensures at (sym c.is_late.ensures ∙ c.if-is_late.false) in
    record {
      added = pushed_first text _ _ _ 1 (other_first text c.requires e) c.in_ok-push_byte.ensures;
      some = omega arith;
      fits = omega (arith, c.requires);
    }
