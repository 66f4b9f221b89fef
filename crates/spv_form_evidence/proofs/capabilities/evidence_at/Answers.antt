use Rattle.std.proofs.Common.{List, subst}
use Rattle.spv_module.specs.Module.{plain_inst, plain_operands}
use Rattle.spv_module.specs.declared.operand.Operand.{Operand}
use Rattle.spv_form_evidence.specs.capabilities.Evidence.{IsOtherModel}
use Rattle.spv_form_evidence.proofs.lemmas.capabilities.Ruled.{for_c1, for_c2, for_m1, for_e1, for_e2}
use Rattle.spv_form_evidence.proofs.capabilities.evidence_at.Goals as goal

pub returns-in-C1 : goal.returns-in-C1
returns-in-C1 c =
    let s = c.args.survey.now in
    let i = plain_inst c.args.inst.now in
    let shown = c.capability.ensures c.args.number in
    let e = c.capability.result in
    for_c1 s.table s.insts c.args.number i c.args.rule c.requires.there e c.in-C1.is c.requires.broken shown

pub returns-in-C2 : goal.returns-in-C2
returns-in-C2 c =
    let s = c.args.survey.now in
    let i = plain_inst c.args.inst.now in
    for_c2 s.table s.insts c.args.number i c.args.rule c.requires.there c.lister.result c.in-C2.is c.lister.ensures

pub returns-in-M1 : goal.returns-in-M1
returns-in-M1 c =
    let s = c.args.survey.now in
    let i = plain_inst c.args.inst.now in
    let k = c.operand.result in
    let same = c.as_slice.ensures.value in
    let other = subst (λ (os : List Operand). IsOtherModel (plain_operands os) k) same c.operand.ensures in
    for_m1 s.table s.insts c.args.number i c.args.rule c.requires.there k c.in-M1.is c.requires.broken other

pub returns-in-E1 : goal.returns-in-E1
returns-in-E1 c =
    let s = c.args.survey.now in
    let i = plain_inst c.args.inst.now in
    for_e1 s.table s.insts c.args.number i c.args.rule c.requires.there c.in-E1.is c.requires.broken

pub returns-in-E2 : goal.returns-in-E2
returns-in-E2 c =
    let s = c.args.survey.now in
    let i = plain_inst c.args.inst.now in
    for_e2 s.table s.insts c.args.number i c.args.rule c.requires.there c.part.result c.in-E2.is c.part.ensures
