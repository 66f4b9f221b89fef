use Rattle.std.proofs.Common.{subst}
use Rattle.std.proofs.lemmas.Bool.{iff_false}
use Rattle.spv_evidence.specs.declared.evidence.EntryPart.TheVariants as part
use Rattle.spv_layout.specs.Place.{IsDefinition}
use Rattle.spv_capabilities.specs.Asked.{IsImported}
use Rattle.spv_form_evidence.specs.capabilities.Evidence.{IsUnsound}
use Rattle.spv_form_evidence.proofs.lemmas.capabilities.Calling.{not_linked}
use Rattle.spv_form_evidence.proofs.capabilities.entry.linkage_part.Goals as goal

pub returns-then-is_imported_definition : goal.returns-then-is_imported_definition
returns-then-is_imported_definition c = λ i o.
    let both = c.is_imported_definition.ensures.0 c.if-is_imported_definition.true in
    let a = c.first_import.ensures in
    subst (λ m. IsUnsound c.args.survey.now.table c.args.survey.now.insts c.args.number i (part.Imported m)) a.1
    (IsUnsound.imported a.0 o both.1)

pub first_import-requires-clause-imported : goal.first_import-requires-clause-imported
first_import-requires-clause-imported c = (c.is_imported_definition.ensures.0 c.if-is_imported_definition.true).0

pub returns-else-is_imported_definition : goal.returns-else-is_imported_definition
returns-else-is_imported_definition c = λ i o.
    let P = IsImported c.args.survey.now.table c.args.survey.now.insts c.args.number in
    let Q = IsDefinition c.args.survey.now.insts c.args.number in
    let not = iff_false c.is_imported_definition.ensures c.if-is_imported_definition.false in
    let neither = not_linked P Q c.requires.broken not in
    IsUnsound.missing o neither.0 neither.1
