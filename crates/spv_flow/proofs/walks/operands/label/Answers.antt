use Rattle.std.proofs.Common.{◌∙◌, sym}
use Rattle.spv_module.specs.Module.{plain_inst}
use Rattle.spv_flow.proofs.lemmas.branches.Labelled.{label_some, label_other}
use Rattle.spv_flow.proofs.walks.operands.label.Goals as goal

pub label-requires : goal.label-requires
label-requires c = sym c.is_labelled.ensures ∙ c.if-is_labelled.true

pub returns-in-Label : goal.returns-in-Label
returns-in-Label c = λ G f. label_some G (plain_inst c.args.inst.now) c.args.n c.id_at.result c.id_at.ensures
    (rw c.in-Label.is at (c.in-Some.ensures G f))

pub returns-in_default : goal.returns-in_default
returns-in_default c =
    λ G f x u. label_other G (plain_inst c.args.inst.now) c.args.n c.in-Some.found x
    (c.in-Some.ensures G f) c.in_default.not-Label u
