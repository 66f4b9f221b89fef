use Rattle.std.proofs.Common.{arith}
use Rattle.std.proofs.lemmas.Grind.{common_steps}
use Rattle.spv_fault_json.proofs.arrays.push_read_types.Goals as goal

pub loop-thing-preserved : goal.loop-thing-preserved
loop-thing-preserved c operands shown owners is =
    let e = c.in_ok-push_read_type.ensures operands shown owners is in
    let i = c.loop-thing.invariant operands shown owners is in
    grind (arith, e, i, common_steps)
