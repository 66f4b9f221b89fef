use Rattle.spv_module.specs.Module.{plain_inst}
use Rattle.spv_flow.proofs.lemmas.walks.Used.{used_some, used_all}
use Rattle.spv_interfaces.proofs.used.used_id.Goals as goal

pub returns-in-Some : goal.returns-in-Some
returns-in-Some c = λ G f. used_some G (plain_inst c.args.inst.now) c.args.n c.id_at.result c.in-Some.field-0
    c.id_at.ensures (c.in-Some.ensures G f)

pub returns-then-inst-ne-EXT_INST : goal.returns-then-inst-ne-EXT_INST
returns-then-inst-ne-EXT_INST c =
    λ G f. used_all G (plain_inst c.args.inst.now) c.args.n c.use_id.result f c.if-inst-ne-EXT_INST.true
    c.use_id.ensures
