use Rattle.std.proofs.Common.{arith}
use Rattle.spv_declarations.specs.Declarations.{AnnouncesElsewhere, IsForwardElsewhere}
use Rattle.spv_declarations.proofs.Passes.{found_at, more_at, none}
use Rattle.spv_declarations.proofs.Without.{no_forward}
use Rattle.spv_declarations.proofs.pointer.first_elsewhere.Goals as goal

pub returns-then-is_elsewhere : goal.returns-then-is_elsewhere
returns-then-is_elsewhere c = found_at c.args.definitions.now (AnnouncesElsewhere c.args.definitions.now) c.args.count
    c.loop-number.number _
    c.is_elsewhere.result c.loop-number-test.true c.inst.ensures c.is_elsewhere.ensures c.if-is_elsewhere.true
    c.loop-number.invariant

pub loop-number-preserved : goal.loop-number-preserved
loop-number-preserved c = more_at c.args.definitions.now (AnnouncesElsewhere c.args.definitions.now)
    c.loop-number.number _ c.is_elsewhere.result
    c.inst.ensures c.is_elsewhere.ensures c.if-is_elsewhere.false c.loop-number.invariant

pub returns : goal.returns
returns c = none c.args.count c.loop-number.number (IsForwardElsewhere c.args.definitions.now) (omega arith)
    c.loop-number.invariant

pub returns-then-not-kinds : goal.returns-then-not-kinds
returns-then-not-kinds c =
    no_forward c.args.definitions.now c.args.count c.args.kinds.now c.requires.kinds c.if-not-kinds.true
