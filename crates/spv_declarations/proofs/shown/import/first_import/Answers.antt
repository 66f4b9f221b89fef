use Rattle.std.proofs.Common.{arith}
use Rattle.spv_declarations.specs.inner.Said.{HasAt, ImportsBy}
use Rattle.spv_declarations.proofs.Passes.{more_at}
use Rattle.spv_declarations.proofs.Showing.{none_left}
use Rattle.spv_declarations.proofs.shown.import.first_import.Goals as goal

pub is_imported-requires-clause-inst : goal.is_imported-requires-clause-inst
is_imported-requires-clause-inst c = (c.loop-number.number, c.inst.ensures)

pub returns-then-is_imported : goal.returns-then-is_imported
returns-then-is_imported c = (_, c.inst.ensures, c.is_imported.ensures.0 c.if-is_imported.true)

pub loop-number-preserved : goal.loop-number-preserved
loop-number-preserved c =
    let is = c.args.definitions.now in
    more_at is (HasAt is (ImportsBy c.args.linkage) c.args.x) c.loop-number.number _ c.is_imported.result
    c.inst.ensures c.is_imported.ensures c.if-is_imported.false c.loop-number.invariant

pub unreachable-requires : goal.unreachable-requires
unreachable-requires c =
    let is = c.args.definitions.now in
    none_left is (HasAt is (ImportsBy c.args.linkage) c.args.x) c.args.total c.loop-number.number c.requires.total
    (omega arith) c.loop-number.invariant c.requires.imported
