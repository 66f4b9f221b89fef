use Rattle.spv_module.specs.Module.{plain_inst}
use Rattle.spv_flow.proofs.lemmas.walks.Used.{value_some, value_other}
use Rattle.spv_flow.proofs.walks.operands.value.Goals as goal

pub returns-in-Value : goal.returns-in-Value
returns-in-Value c = λ G f. value_some G (plain_inst c.args.inst.now) c.args.n c.id_at.result c.id_at.ensures
    (rw c.in-Value.is at (c.in-Some.ensures G f))

pub returns-in_default : goal.returns-in_default
returns-in_default c =
    λ G f x u. value_other G (plain_inst c.args.inst.now) c.args.n c.in-Some.found x
    (c.in-Some.ensures G f) c.in_default.not-Value u
