use Rattle.std.proofs.Common.{subst, ℕ, Option}
use Rattle.spv_ids.specs.Outcome.{IsDefinitionOf}
use Rattle.spv_capabilities.proofs.Sound.{entered_tells, not_entered_tells}
use Rattle.spv_capabilities.proofs.entry.is_entered.Goals as goal

pub returns-in-Some : goal.returns-in-Some
returns-in-Some c =
    let one = subst (λ (o : Option ℕ). IsDefinitionOf c.args.survey.now.insts c.args.id o) c.in-Some.is
    c.definition.ensures in
    entered_tells c.args.survey.now.insts c.args.id c.in-Some.function c.is_entered.result one c.is_entered.ensures

pub returns-in-None : goal.returns-in-None
returns-in-None c = not_entered_tells c.args.survey.now.insts c.args.id
    (subst (λ (o : Option ℕ). IsDefinitionOf c.args.survey.now.insts c.args.id o) c.in-None.is c.definition.ensures)
