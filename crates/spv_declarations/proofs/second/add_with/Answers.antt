use Rattle.std.proofs.Common.{◌∙◌, sym}
use Rattle.spv_module.specs.Module.{plain_inst}
use Rattle.spv_declarations.proofs.Stated.{on_ok, targets_add}
use Rattle.spv_declarations.proofs.second.add_with.Goals as goal

pub returns-in_default : goal.returns-in_default
returns-in_default c = on_ok c.add_targets.result _ _
    (targets_add c.requires.said.0 c.args.definitions.now c.args.said.now (plain_inst c.args.inst.now) c.args.decoration
    c.args.set.now c.add_targets.new.set c.requires.said.1 c.requires.inst c.requires.known
    (sym c.given.ensures ∙ c.in_default.is)) c.add_targets.ensures
