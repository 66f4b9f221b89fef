use Rattle.std.proofs.Common.{◌∙◌, sym}
use Rattle.spv_module.specs.Module.{plain_inst}
use Rattle.spv_declarations.proofs.Stated.{links_by_group}
use Rattle.spv_declarations.proofs.linked.links.Goals as goal

pub returns-in-None : goal.returns-in-None
returns-in-None c =
    links_by_group c.requires.said.0 c.args.definitions.now c.args.said.now (plain_inst c.args.inst.now)
    c.args.entered.now c.links_target.result c.requires.said.1 c.requires.inst (sym c.given.ensures ∙ c.in-None.is)
    c.links_target.ensures
