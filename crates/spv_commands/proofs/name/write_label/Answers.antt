use Rattle.std.proofs.Common.{arith, refl}
use Rattle.spv_commands.proofs.Parts.{on_and_on}
use Rattle.spv_commands.proofs.Names.{begun_on, byte_on, late_on, part_on, whole_on}
use Rattle.spv_commands.proofs.name.write_label.Goals as goal

pub loop-at-init : goal.loop-at-init
loop-at-init g c = (omega arith, begun_on _ _ _ _)

pub loop-at-preserved-then-count-gt0 : goal.loop-at-preserved-then-count-gt0
loop-at-preserved-then-count-gt0 g c =
    let bytes = c.as_bytes-bytes.result.now in
    let run = c.plain_count-count in
    let before = c.loop-at.invariant in (
      grind (arith, run.ensures.bound, before.0),
      part_on bytes _ _ c.loop-at.at run.result _ _ _ _ _ _ _ _ _ refl run.ensures.plain before.1
          c.write_on-heard.ensures,
    )

pub loop-at-preserved-then-is_late : goal.loop-at-preserved-then-is_late
loop-at-preserved-then-is_late g c =
    let bytes = c.as_bytes-bytes.result.now in
    let late = c.is_late.ensures.late c.if-is_late.true in
    let h = late.0 in
    (omega (arith, h), late_on bytes c.loop-at.at _ _ _ _ _ _ _ _ _ late c.loop-at.invariant.1 c.write_escapes-heard.ensures)

pub loop-at-preserved : goal.loop-at-preserved
loop-at-preserved g c =
    let bytes = c.as_bytes-bytes.result.now in
    let more = c.loop-at-test.true in
    let other = c.is_late.ensures.other c.if-is_late.false in
    (omega (arith, more), byte_on bytes c.loop-at.at _ _ _ _ _ _ _ _ _ more other c.loop-at.invariant.1 c.write_byte-heard.ensures)

pub returns : goal.returns
returns g c =
    let bytes = c.as_bytes-bytes in
    let whole = whole_on bytes.result.now c.loop-at.at _ _ _ _ _ _ (omega (arith, c.loop-at-test.false))
    c.loop-at.invariant.1 in
    on_and_on _ _ _ _ _ _ _ _ _ _ _ (rw bytes.ensures.value at whole) c.write_on.ensures
