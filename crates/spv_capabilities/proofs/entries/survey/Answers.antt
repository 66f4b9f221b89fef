use Rattle.std.proofs.Common.{List, map, sym, subst}
use Rattle.spv_module.specs.declared.module.Inst.{Inst}
use Rattle.spv_module.specs.Module.{plain_inst}
use Rattle.spv_ids.specs.Outcome.{IsDefinitionOf, definition_in}
use Rattle.spv_capabilities.proofs.entries.survey.Goals as goal

pub new-requires-clause-ids : goal.new-requires-clause-ids
new-requires-clause-ids c = λ x.
    subst (λ (l : List Inst). IsDefinitionOf (map plain_inst l) x (definition_in c.args.ids.now x))
    (sym c.as_slice.ensures.value) (c.requires.ids x)
