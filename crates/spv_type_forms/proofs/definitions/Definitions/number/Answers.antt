use Rattle.std.proofs.Common.{ℕ, Option, map, subst, sym}
use Rattle.spv_module.specs.Module.{plain_inst}
use Rattle.spv_ids.specs.Outcome.{IsDefinitionOf}
use Rattle.spv_type_forms.proofs.definitions.Definitions.number.Goals as goal

pub returns : goal.returns
returns c =
    let is = map plain_inst c.self.inside.insts.now in
    let x = c.args.id in
    subst (λ js. IsDefinitionOf js x c.definition.result) c.self.view_is
    (subst (λ (o : Option ℕ). IsDefinitionOf is x o) (sym c.definition.ensures) (c.self.invariant.each x))
