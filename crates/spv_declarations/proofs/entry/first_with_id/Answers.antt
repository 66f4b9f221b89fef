use Rattle.std.proofs.Common.{arith}
use Rattle.spv_declarations.specs.Entry.{SetsById, TakesId}
use Rattle.spv_declarations.proofs.Passes.{found_at, more_at, none}
use Rattle.spv_declarations.proofs.Without.{no_by_id}
use Rattle.spv_declarations.proofs.entry.first_with_id.Goals as goal

pub returns-then-takes_id : goal.returns-then-takes_id
returns-then-takes_id c = found_at c.args.definitions.now (SetsById) c.args.count c.loop-number.number _
    c.takes_id.result c.loop-number-test.true c.inst.ensures c.takes_id.ensures c.if-takes_id.true
    c.loop-number.invariant

pub loop-number-preserved : goal.loop-number-preserved
loop-number-preserved c = more_at c.args.definitions.now (SetsById) c.loop-number.number _ c.takes_id.result
    c.inst.ensures c.takes_id.ensures c.if-takes_id.false c.loop-number.invariant

pub returns : goal.returns
returns c = none c.args.count c.loop-number.number (TakesId c.args.definitions.now) (omega arith)
    c.loop-number.invariant

pub returns-then-not-kinds : goal.returns-then-not-kinds
returns-then-not-kinds c =
    no_by_id c.args.definitions.now c.args.count c.args.kinds.now c.requires.kinds c.if-not-kinds.true
