use Rattle.std.proofs.Common.{arith}
use Rattle.spv_commands.proofs.Names.{plain_more}
use Rattle.spv_commands.proofs.name.plain_count.Goals as goal

pub loop-count-preserved : goal.loop-count-preserved
loop-count-preserved c =
    let more = c.loop-count-test.true in
    let plain = c.is_plain.ensures c.if-is_plain.true in (
      omega (arith, more),
      plain_more c.args.bytes.now c.loop-count.count more plain.0 plain.1 c.loop-count.invariant.1,
    )
