use Rattle.std.proofs.Common.{sym, subst, map, ℕ, Option}
use Rattle.spv_module.specs.Module.{plain_inst}
use Rattle.spv_ids.specs.Outcome.{IsDefinitionOf}
use Rattle.spv_capabilities.specs.inner.Subject.{Subject}
use Rattle.spv_capabilities.proofs.surveyed.Survey.definition.Goals as goal

pub returns : goal.returns
returns c =
    let is = map plain_inst c.self.inside.insts.now in
    let one = subst (λ (o : Option ℕ). IsDefinitionOf is c.args.id o) (sym c.definition.ensures)
    (c.self.invariant.ids c.args.id) in
    subst (λ (s : Subject). IsDefinitionOf s.insts c.args.id c.definition.result) c.self.view_is one
