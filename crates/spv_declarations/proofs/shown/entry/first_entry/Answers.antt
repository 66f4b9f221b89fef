use Rattle.std.proofs.Common.{arith}
use Rattle.spv_declarations.specs.inner.Shown.{Enters}
use Rattle.spv_declarations.proofs.Passes.{more_at}
use Rattle.spv_declarations.proofs.Showing.{none_left}
use Rattle.spv_declarations.proofs.shown.entry.first_entry.Goals as goal

pub returns-then-enters : goal.returns-then-enters
returns-then-enters c = (_, c.inst.ensures, c.enters.ensures.0 c.if-enters.true)

pub loop-number-preserved : goal.loop-number-preserved
loop-number-preserved c = more_at c.args.definitions.now (Enters c.args.functions.now) c.loop-number.number _
    c.enters.result c.inst.ensures c.enters.ensures c.if-enters.false c.loop-number.invariant

pub unreachable-requires : goal.unreachable-requires
unreachable-requires c = none_left c.args.definitions.now (Enters c.args.functions.now) c.args.total
    c.loop-number.number c.requires.total (omega arith) c.loop-number.invariant c.requires.entered
