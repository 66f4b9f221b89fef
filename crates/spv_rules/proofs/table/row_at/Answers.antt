use Rattle.std.proofs.Common.{◌≡◌, arith}
use Rattle.spv_rules.proofs.Rows.{stands_in_all, stands_here, stands_behind, stands_nowhere}
use Rattle.spv_rules.proofs.table.row_at.Goals as goal

pub loop-part-init : goal.loop-part-init
loop-part-init c = stands_in_all c.args.place

pub loop-part-preserved : goal.loop-part-preserved
loop-part-preserved c =
    stands_behind c.part_at-rows.result.now c.loop-part.part c.loop-part.left c.args.place
    c.loop-part-test.true c.part_at-rows.ensures c.loop-part.invariant c.if-left-rows.false

pub returns-then-left-rows : goal.returns-then-left-rows
returns-then-left-rows c =
    stands_here c.part_at-rows.result.now c.loop-part.part c.loop-part.left c.args.place _
    c.loop-part-test.true c.part_at-rows.ensures c.loop-part.invariant c.if-left-rows.true

pub unreachable-requires : goal.unreachable-requires
unreachable-requires c =
    let n : c.loop-part.part ≡ 7 = omega arith in
    stands_nowhere c.loop-part.left c.args.place c.requires (rw n at c.loop-part.invariant)
