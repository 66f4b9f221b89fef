use Rattle.std.proofs.Common.{◌≡◌, ◌∙◌, sym, true, false}
use Rattle.spv_layout.specs.Place.{IsDefinition}
use Rattle.spv_capabilities.specs.Asked.{IsImported}
use Rattle.spv_capabilities.proofs.Sound.{not_imported_tells}
use Rattle.spv_capabilities.proofs.entry.is_sound_linkage.Goals as goal

pub returns-else-is_imported : goal.returns-else-is_imported
returns-else-is_imported c =
    let G = c.args.survey.now.table in
    let is = c.args.survey.now.insts in
    not_imported_tells c.is_definition-defined.result (IsImported G is c.args.number) (IsDefinition is c.args.number)
    (λ p. let no : false ≡ true = sym c.if-is_imported.false ∙ c.is_imported.ensures.1 p in absurd (cc))
    c.is_definition-defined.ensures
