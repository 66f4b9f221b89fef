use Rattle.std.proofs.Common.{drop}
use Rattle.spv_module.specs.Module.{plain_operands}
use Rattle.spv_declarations.proofs.Misplacing.{behind_tells}
use Rattle.spv_declarations.proofs.decorated.has_id_behind.Goals as goal

pub returns : goal.returns
returns c = behind_tells (drop 2 (plain_operands c.args.operands.now)) (plain_operands c.behind_two.result.now)
    c.has_id.result c.behind_two.ensures c.has_id.ensures
