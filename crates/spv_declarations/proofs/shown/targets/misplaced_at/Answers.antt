use Rattle.spv_module.specs.Module.{plain_operands}
use Rattle.spv_declarations.proofs.Badly.{at_tells}
use Rattle.spv_declarations.proofs.shown.targets.misplaced_at.Goals as goal

pub returns-in-Some : goal.returns-in-Some
returns-in-Some c =
    at_tells c.args.definitions.now (plain_operands c.args.inst.now.operands) c.args.decorations.now c.args.k
    c.in-Some.x
    c.misplaced_on.result c.in-Some.ensures c.misplaced_on.ensures
