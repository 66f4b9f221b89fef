use Rattle.std.proofs.Common.{subst, ℕ, Option}
use Rattle.spv_ids.specs.Outcome.{IsDefinitionOf}
use Rattle.spv_capabilities.proofs.Sound.{kernel_tells, no_kernel, one_within}
use Rattle.spv_capabilities.proofs.entry.is_kernel_function.Goals as goal

pub may_enter-requires : goal.may_enter-requires
may_enter-requires c =
    one_within c.args.survey.now.insts c.args.id c.in-Some.function
    (subst (λ (o : Option ℕ). IsDefinitionOf c.args.survey.now.insts c.args.id o) c.in-Some.is c.definition.ensures)

pub returns-in-Some : goal.returns-in-Some
returns-in-Some c =
    let one = subst (λ (o : Option ℕ). IsDefinitionOf c.args.survey.now.insts c.args.id o) c.in-Some.is
    c.definition.ensures in
    kernel_tells c.args.survey.now.insts c.args.id c.in-Some.function c.may_enter.result one c.may_enter.ensures

pub returns-in-None : goal.returns-in-None
returns-in-None c = no_kernel c.args.survey.now.insts c.args.id
    (subst (λ (o : Option ℕ). IsDefinitionOf c.args.survey.now.insts c.args.id o) c.in-None.is c.definition.ensures)
