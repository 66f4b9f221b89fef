use Rattle.spv_module.specs.Module.{plain_inst}
use Rattle.spv_declarations.specs.inner.Said.{ImportsBy}
use Rattle.spv_declarations.proofs.Showing.{both_tests, first_test, import_decorated}
use Rattle.spv_declarations.proofs.shown.import.is_imported.Goals as goal

pub returns-then-decorates : goal.returns-then-decorates
returns-then-decorates c =
    let is = c.args.definitions.now in
    let i = plain_inst c.args.inst.now in
    both_tests is (ImportsBy c.args.linkage) i c.args.x c.decorates.result c.imports.result
    (import_decorated is c.args.linkage c.args.x i) c.decorates.ensures (c.imports.ensures c.args.x)
    c.if-decorates.true

pub returns-else-decorates : goal.returns-else-decorates
returns-else-decorates c =
    let is = c.args.definitions.now in
    let i = plain_inst c.args.inst.now in
    first_test is (ImportsBy c.args.linkage) i c.args.x c.decorates.result
    (import_decorated is c.args.linkage c.args.x i) c.decorates.ensures c.if-decorates.false
