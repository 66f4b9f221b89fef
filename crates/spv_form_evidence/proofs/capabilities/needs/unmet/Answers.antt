use Rattle.std.proofs.Common.{inl, inr, arith}
use Rattle.std.proofs.lemmas.Bool.{iff_false}
use Rattle.spv_module.specs.Module.{plain_inst}
use Rattle.spv_form_evidence.specs.capabilities.Evidence.{IsUncovered}
use Rattle.spv_form_evidence.proofs.lemmas.capabilities.Needed.{no_sampler, no_access}
use Rattle.spv_form_evidence.proofs.capabilities.needs.unmet.Goals as goal

pub returns-in-26 : goal.returns-in-26
returns-in-26 c =
    let s = c.args.survey.now in
    let i = plain_inst c.args.inst.now in
    IsUncovered.type (inr c.in-26.is) (no_sampler s.table s.insts i c.in-26.is c.requires)

pub returns-then-has : goal.returns-then-has
returns-then-has c =
    let s = c.args.survey.now in
    let i = plain_inst c.args.inst.now in
    let a = no_access s.table s.insts i c.in-25.is (c.has.ensures.0 c.if-has.true) c.requires in
    IsUncovered.access c.in-25.is a.0 a.1

pub returns-else-has : goal.returns-else-has
returns-else-has c = IsUncovered.type (inl c.in-25.is) (iff_false c.has.ensures c.if-has.false)

pub returns-in_default : goal.returns-in_default
returns-in_default c = IsUncovered.width (λ q. omega (arith, q)) (λ q. omega (arith, q)) c.requires
