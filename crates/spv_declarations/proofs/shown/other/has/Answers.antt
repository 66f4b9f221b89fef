use Rattle.spv_module.specs.Module.{plain_inst}
use Rattle.spv_declarations.specs.Given.{Gives}
use Rattle.spv_declarations.proofs.Showing.{both_tests, first_test, has_decorated}
use Rattle.spv_declarations.proofs.shown.other.has.Goals as goal

pub returns-then-decorates : goal.returns-then-decorates
returns-then-decorates c =
    let is = c.args.definitions.now in
    let i = plain_inst c.args.inst.now in
    both_tests is (Gives c.args.decoration) i c.args.x c.decorates.result c.gives.result
    (has_decorated is c.args.decoration c.args.x i) c.decorates.ensures (c.gives.ensures c.args.x)
    c.if-decorates.true

pub returns-else-decorates : goal.returns-else-decorates
returns-else-decorates c =
    let is = c.args.definitions.now in
    let i = plain_inst c.args.inst.now in
    first_test is (Gives c.args.decoration) i c.args.x c.decorates.result
    (has_decorated is c.args.decoration c.args.x i) c.decorates.ensures c.if-decorates.false
