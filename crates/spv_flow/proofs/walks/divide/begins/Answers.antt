use Rattle.std.proofs.lemmas.Grind.{elements}
use Rattle.std.proofs.Common.{◌-◌, map, get_or, arith}
use Rattle.spv_module.specs.Module.{plain_inst}
use Rattle.spv_flow.proofs.lemmas.branches.Labelled.{inst_get}
use Rattle.spv_flow.proofs.lemmas.walks.Starting.{begins_by}
use Rattle.spv_flow.proofs.walks.divide.begins.Goals as goal

pub returns-else-insts-at-eq-LABEL : goal.returns-else-insts-at-eq-LABEL
returns-else-insts-at-eq-LABEL c =
    let insts = c.args.insts.now in
    let at = c.args.at in
    let d = c.index-insts-at.result in
    let e = c.index-insts-at-else-insts-at-eq-LABEL.result in
    let some = c.requires.some in
    let within = c.requires.at in
    begins_by (map plain_inst insts) at (at - 1) (plain_inst (get_or insts at d))
    (plain_inst (get_or insts (at - 1) e)) c.is_terminator.result
    (inst_get insts at d within) c.if-insts-at-eq-LABEL.false
    (omega (arith, some)) (inst_get insts (at - 1) e (omega (arith, within))) c.is_terminator.ensures

pub returns-then-insts-at-eq-LABEL : goal.returns-then-insts-at-eq-LABEL
returns-then-insts-at-eq-LABEL c = grind (arith, elements)
