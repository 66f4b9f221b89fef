use Rattle.std.proofs.Common.{◌≡◌, Some, None, map, subst, sym, ◌∙◌}
use Rattle.spv_module.specs.Module.{plain_inst}
use Rattle.spv_ids.specs.Outcome.{IsOnly, definition_in}
use Rattle.spv_type_forms.specs.Definitions.{IsGlobal}
use Rattle.spv_type_forms.proofs.Lookups.{kept_one, no_global}
use Rattle.spv_type_forms.proofs.definitions.Definitions.is_global.Goals as goal

pub returns-in-Some : goal.returns-in-Some
returns-in-Some c =
    let is = map plain_inst c.self.inside.insts.now in
    let kept : definition_in c.self.inside.ids.now c.args.id ≡ Some c.in-Some.number = sym c.definition.ensures
    ∙ c.in-Some.is in
    let one = kept_one is c.args.id c.in-Some.number (definition_in c.self.inside.ids.now c.args.id)
    (c.self.invariant.each c.args.id) kept in
    c.is_global_at.ensures c.args.id (subst (λ js. IsOnly js c.args.id c.in-Some.number) c.self.view_is one)

pub returns-in-None : goal.returns-in-None
returns-in-None c =
    let is = map plain_inst c.self.inside.insts.now in
    let kept : definition_in c.self.inside.ids.now c.args.id ≡ None = sym c.definition.ensures ∙ c.in-None.is in (
      λ y. cc,
      λ g. absurd (no_global is c.args.id (definition_in c.self.inside.ids.now c.args.id)
          (c.self.invariant.each c.args.id) kept (subst (λ js. IsGlobal js c.args.id) (sym c.self.view_is) g)),
    )
