use Rattle.std.proofs.Common.{◌∙◌, ap, arith}
use Rattle.spv_lines.specs.inner.Control.{control_size}
use Rattle.spv_lines.proofs.Escapes.{plain_step, tail}
use Rattle.spv_lines.proofs.plain.first_control.Goals as goal

pub loop-at-preserved : goal.loop-at-preserved
loop-at-preserved c =
    let l = c.loop-at-test.true in
    let z = c.if-size_of_control-gt0.false in
    let s = c.size_of_control.ensures.size ∙ ap control_size (tail c.args.bytes.now c.loop-at.at) in
    (omega (arith, l), plain_step c.args.bytes.now c.loop-at.at l (omega (arith, z, s)) c.loop-at.invariant.1)
