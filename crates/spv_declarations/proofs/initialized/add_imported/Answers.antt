use Rattle.std.proofs.Common.{◌≡◌, ◌∙◌, sym, Some, None}
use Rattle.spv_module.specs.Module.{plain_inst}
use Rattle.spv_declarations.proofs.Stated.{on_ok, import_targets_add}
use Rattle.spv_declarations.proofs.initialized.add_imported.Goals as goal

pub returns-in_default : goal.returns-in_default
returns-in_default c = on_ok c.add_targets.result _ _
    (import_targets_add c.args.linkage c.args.definitions.now c.args.said.now (plain_inst c.args.inst.now)
    c.args.imported.now c.add_targets.new.imported c.requires.said c.requires.inst
    (λ x e. let no : None ≡ Some x = sym (sym c.imported_by.ensures ∙ c.in_default.is) ∙ e in absurd (cc)))
    c.add_targets.ensures
