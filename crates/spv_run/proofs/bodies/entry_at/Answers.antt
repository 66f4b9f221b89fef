use Rattle.std.proofs.Common.{map, get_or}
use Rattle.spv_module.specs.Module.{plain_inst}
use Rattle.spv_flow.proofs.lemmas.branches.Labelled.{inst_get}
use Rattle.spv_run.proofs.Moving.{no_function}
use Rattle.spv_run.proofs.bodies.entry_at.Goals as goal

pub returns-else-opcode-eq-FUNCTION : goal.returns-else-opcode-eq-FUNCTION
returns-else-opcode-eq-FUNCTION c = λ G bound sound f.
    absurd (no_function (map plain_inst c.args.insts.now) c.args.at
    (plain_inst (get_or c.args.insts.now c.args.at c.index-insts-at.result))
    (inst_get c.args.insts.now c.args.at c.index-insts-at.result c.requires.within) c.if-opcode-eq-FUNCTION.false G
    bound sound f)
