use Rattle.std.proofs.Common.{arith}
use Rattle.spv_fault_json.proofs.Quieted.{one_further}
use Rattle.spv_fault_json.proofs.quiet.quiet_count.Goals as goal

pub loop-count-preserved : goal.loop-count-preserved
loop-count-preserved c =
    let l = c.loop-count-test.true in
    record {
      within = omega (arith, l);
      quiet = one_further c.args.text.now c.loop-count.count l c.if-text-count-ne127.true c.if-text-count.true
          c.loop-count.invariant.quiet;
    }
