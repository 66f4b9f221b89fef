use Rattle.std.proofs.Common.{◌∙◌, sym}
use Rattle.spv_declarations.proofs.Early.{early_all}
use Rattle.spv_declarations.proofs.Outside.{initialized_within, not_initialized, by_class, imported_some, by_import}
use Rattle.spv_declarations.proofs.shown.import.outside_inst.Goals as goal

pub inst-requires : goal.inst-requires
inst-requires c = initialized_within c.args.table.now c.args.definitions.now c.args.inst c.requires.broken

pub unreachable-requires : goal.unreachable-requires
unreachable-requires c = not_initialized c.args.table.now c.args.definitions.now c.args.inst _ c.inst.ensures
    c.requires.broken (sym c.initialized_by.ensures ∙ c.in_default.is)

pub returns-then-class-eq-INPUT : goal.returns-then-class-eq-INPUT
returns-then-class-eq-INPUT c = by_class c.args.table.now c.args.definitions.now c.args.inst _ _ _ c.inst.ensures
    c.requires.broken (sym c.initialized_by.ensures ∙ c.in-Some.is) c.if-class-eq-INPUT.true

pub gather-requires-clause-early : goal.gather-requires-clause-early
gather-requires-clause-early c = early_all c.args.definitions.now c.args.total c.requires.total

pub first_import-requires-clause-imported : goal.first_import-requires-clause-imported
first_import-requires-clause-imported c = imported_some c.args.table.now c.args.definitions.now
    c.kind_named-linkage.result c.args.inst _ _ _ c.kind_named-linkage.ensures c.inst.ensures c.requires.broken
    (sym c.initialized_by.ensures ∙ c.in-Some.is) c.if-class-eq-INPUT.false

pub returns : goal.returns
returns c = by_import c.args.table.now c.args.definitions.now c.kind_named-linkage.result c.args.inst
    c.first_import.result _ _ _ c.kind_named-linkage.ensures c.inst.ensures c.requires.broken
    (sym c.initialized_by.ensures ∙ c.in-Some.is)
    c.first_import.ensures
