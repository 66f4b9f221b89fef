use Rattle.std.proofs.Common.{subst, ℕ, Option}
use Rattle.spv_module.specs.Module.{plain_inst}
use Rattle.spv_ids.specs.Outcome.{IsDefinitionOf}
use Rattle.spv_capabilities.proofs.Sound.{void_tells, no_void, one_within}
use Rattle.spv_capabilities.proofs.entry.is_void.Goals as goal

pub inst-requires : goal.inst-requires
inst-requires c = one_within c.args.survey.now.insts c.args.id c.in-Some.number
    (subst (λ (o : Option ℕ). IsDefinitionOf c.args.survey.now.insts c.args.id o) c.in-Some.is c.definition.ensures)

pub returns-in-Some : goal.returns-in-Some
returns-in-Some c =
    let one = subst (λ (o : Option ℕ). IsDefinitionOf c.args.survey.now.insts c.args.id o) c.in-Some.is
    c.definition.ensures in
    void_tells c.args.survey.now.insts c.args.id c.in-Some.number (plain_inst c.inst.result.now) one c.inst.ensures

pub returns-in-None : goal.returns-in-None
returns-in-None c = no_void c.args.survey.now.insts c.args.id
    (subst (λ (o : Option ℕ). IsDefinitionOf c.args.survey.now.insts c.args.id o) c.in-None.is c.definition.ensures)
