use Rattle.std.proofs.Common.{inl, inr, arith}
use Rattle.spv_module.specs.Module.{plain_inst}
use Rattle.spv_form_evidence.specs.capabilities.Evidence.{IsUnsound}
use Rattle.spv_form_evidence.proofs.lemmas.capabilities.Calling.{not_mode, not_linkage}
use Rattle.spv_form_evidence.proofs.capabilities.entry.part.Goals as goal

pub returns-in-16 : goal.returns-in-16
returns-in-16 c =
    let s = c.args.survey.now in
    let i = plain_inst c.args.inst.now in
    let mode = not_mode s.table s.insts c.args.number i (inl c.in-16.is) c.requires.broken in
    IsUnsound.unnamed (inl c.in-16.is) mode

pub returns-in-331 : goal.returns-in-331
returns-in-331 c =
    let s = c.args.survey.now in
    let i = plain_inst c.args.inst.now in
    let mode = not_mode s.table s.insts c.args.number i (inr c.in-331.is) c.requires.broken in
    IsUnsound.unnamed (inr c.in-331.is) mode

pub returns-in_default : goal.returns-in_default
returns-in_default c =
    let s = c.args.survey.now in
    let i = plain_inst c.args.inst.now in
    let n = c.args.number in
    let linked = not_linkage s.table s.insts n i (λ q. omega (arith, q)) (λ q. omega (arith, q)) (λ q. omega (arith, q))
    c.requires.broken in
    c.linkage_part.ensures i linked.0
