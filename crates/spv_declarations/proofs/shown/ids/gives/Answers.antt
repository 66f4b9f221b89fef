use Rattle.std.proofs.Common.{◌∙◌, sym}
use Rattle.spv_module.specs.Module.{plain_inst}
use Rattle.spv_declarations.proofs.Showing.{own_gives, group_gives, nothing_given}
use Rattle.spv_declarations.proofs.shown.ids.gives.Goals as goal

pub returns-in-Some : goal.returns-in-Some
returns-in-Some c = own_gives c.args.definitions.now (plain_inst c.args.inst.now) _ _ c.args.decoration
    c.is_given.result (sym c.given.ensures ∙ c.in-Some.is) c.is_given.ensures

pub returns-in-Some-group_of : goal.returns-in-Some-group_of
returns-in-Some-group_of c = group_gives c.requires.said.0 c.args.definitions.now c.args.said.now
    (plain_inst c.args.inst.now) _ c.args.decoration c.has.result c.requires.said.1 c.requires.inst c.requires.known
    (sym c.group_of.ensures ∙ c.in-Some-group_of.is) c.has.ensures

pub returns-in-None : goal.returns-in-None
returns-in-None c = nothing_given c.args.definitions.now (plain_inst c.args.inst.now) c.args.decoration
    (sym c.given.ensures ∙ c.in_default.is) (sym c.group_of.ensures ∙ c.in-None.is)
