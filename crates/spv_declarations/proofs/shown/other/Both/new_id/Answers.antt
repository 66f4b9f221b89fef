use Rattle.std.proofs.Common.{◌∙◌, sym}
use Rattle.spv_module.specs.Module.{plain_inst, plain_operands}
use Rattle.spv_declarations.proofs.Seconds.{own_new, none_new}
use Rattle.spv_declarations.proofs.shown.other.Both.new_id.Goals as goal

pub returns-in-Some : goal.returns-in-Some
returns-in-Some c = own_new (plain_inst c.args.inst.now) _ _ c.args.self.now c.args.by_restricted c.args.by_aliased
    (sym c.given.ensures ∙ c.in-Some.is) c.requires

pub unreachable-requires : goal.unreachable-requires
unreachable-requires c = none_new (plain_inst c.args.inst.now) (plain_operands c.behind_first.result.now)
    c.args.self.now c.args.by_restricted c.args.by_aliased (sym c.given.ensures ∙ c.in_default.is)
    c.behind_first.ensures c.requires (λ h. c.in-None.ensures h)
