use Rattle.std.proofs.Common.{◌∙◌, sym}
use Rattle.spv_module.specs.Module.{plain_inst}
use Rattle.spv_declarations.proofs.Outside.{not_tells}
use Rattle.spv_declarations.proofs.Showing.{own_imports, group_imports, nothing_imported}
use Rattle.spv_declarations.proofs.shown.import.imports.Goals as goal

pub returns-in-Some : goal.returns-in-Some
returns-in-Some c = own_imports c.args.definitions.now c.args.linkage (plain_inst c.args.inst.now) _ _
    (sym c.imported_by.ensures ∙ c.in-Some.is) (not_tells c.is_group.result _ c.is_group.ensures)

pub returns-in-Some-group_of : goal.returns-in-Some-group_of
returns-in-Some-group_of c = group_imports c.args.linkage c.args.definitions.now c.args.said.now
    (plain_inst c.args.inst.now) _ c.imports.result c.requires.said c.requires.inst
    (sym c.imported_by.ensures ∙ c.in_default.is) (sym c.group_of.ensures ∙ c.in-Some-group_of.is) c.imports.ensures

pub returns-in-None : goal.returns-in-None
returns-in-None c = nothing_imported c.args.definitions.now c.args.linkage (plain_inst c.args.inst.now)
    (sym c.imported_by.ensures ∙ c.in_default.is) (sym c.group_of.ensures ∙ c.in-None.is)
