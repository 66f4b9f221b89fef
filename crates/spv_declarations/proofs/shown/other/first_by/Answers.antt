use Rattle.std.proofs.Common.{arith}
use Rattle.spv_declarations.specs.Given.{Gives}
use Rattle.spv_declarations.specs.inner.Said.{HasAt}
use Rattle.spv_declarations.proofs.Passes.{more_at}
use Rattle.spv_declarations.proofs.Seconds.{least_at, some_by}
use Rattle.spv_declarations.proofs.Showing.{none_left}
use Rattle.spv_declarations.proofs.shown.other.first_by.Goals as goal

pub has-requires-clause-inst : goal.has-requires-clause-inst
has-requires-clause-inst c = (c.loop-number.number, c.inst.ensures)

pub returns-then-has : goal.returns-then-has
returns-then-has c = least_at c.args.definitions.now c.args.decoration c.args.x c.loop-number.number _ c.inst.ensures
    (c.has.ensures.0 c.if-has.true) c.loop-number.invariant

pub loop-number-preserved : goal.loop-number-preserved
loop-number-preserved c =
    let is = c.args.definitions.now in
    more_at is (HasAt is (Gives c.args.decoration) c.args.x) c.loop-number.number _ c.has.result c.inst.ensures
    c.has.ensures c.if-has.false c.loop-number.invariant

pub unreachable-requires : goal.unreachable-requires
unreachable-requires c =
    let is = c.args.definitions.now in
    none_left is (HasAt is (Gives c.args.decoration) c.args.x) c.args.total c.loop-number.number c.requires.total
    (omega arith) c.loop-number.invariant (some_by is c.args.decoration c.args.x c.requires.there)
