use Rattle.std.proofs.Common.{◌∙◌, sym}
use Rattle.spv_module.specs.Module.{plain_inst, plain_operands}
use Rattle.spv_declarations.proofs.Showing.{own_decorates, target_decorates, none_decorates}
use Rattle.spv_declarations.proofs.shown.ids.decorates.Goals as goal

pub returns-in-Some : goal.returns-in-Some
returns-in-Some c = own_decorates (plain_inst c.args.inst.now) _ _ c.args.x (sym c.given.ensures ∙ c.in-Some.is)

pub returns-in-Some-group_of : goal.returns-in-Some-group_of
returns-in-Some-group_of c = target_decorates (plain_inst c.args.inst.now) _ c.args.x
    (plain_operands c.behind_first.result.now) c.is_target.result (sym c.group_of.ensures ∙ c.in-Some-group_of.is)
    c.behind_first.ensures c.is_target.ensures

pub returns-in-None : goal.returns-in-None
returns-in-None c = none_decorates (plain_inst c.args.inst.now) c.args.x (sym c.given.ensures ∙ c.in_default.is)
    (sym c.group_of.ensures ∙ c.in-None.is)
