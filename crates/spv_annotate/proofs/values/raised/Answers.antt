use Rattle.std.proofs.Common.{◌∙◌, arith, sym}
use Rattle.spv_annotate.proofs.Halves.{raised_step, raised_end, raised_none}
use Rattle.spv_annotate.proofs.values.raised.Goals.{then-loop-left-test+else-rest-lt1024, else-loop-left-test}
use Rattle.spv_annotate.proofs.values.raised.Goals as goal

pub loop-left-preserved : goal.loop-left-preserved
loop-left-preserved c =
    let v = c.loop-left.invariant in
    record {
      exponent = (let e = v.exponent in omega arith);
      few = (let e = v.few in omega arith);
      small = omega arith;
      same = raised_step c.loop-left.left c.loop-left.exponent c.loop-left.rest c.loop-left-test.true
          c.if-rest-lt1024.true ∙ v.same;
    }

pub returns-clause-value : goal.returns-clause-value
returns-clause-value c =
    let v = c.loop-left.invariant in
    elim c.loop-left-test.branch [
      | then-loop-left-test+else-rest-lt1024 w ↦
          sym (raised_end c.loop-left.left c.loop-left.exponent c.loop-left.rest
          (λ e. let t = w.loop-left-test.true in omega arith) w.if-rest-lt1024.false) ∙ v.same
      | else-loop-left-test w ↦
          sym (raised_none c.loop-left.left c.loop-left.exponent c.loop-left.rest
          (let t = w.loop-left-test.false in omega arith)) ∙ v.same
    ]
