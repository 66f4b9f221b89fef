use Rattle.std.proofs.Common.{◌∙◌, sym}
use Rattle.spv_module.specs.Module.{plain_operands}
use Rattle.spv_type_kinds.specs.Operands.{ids_in}
use Rattle.spv_type_forms.proofs.TagTests.{all_pointees_typed}
use Rattle.spv_type_forms.proofs.several.all_pointees.Goals as goal

pub returns : goal.returns
returns c =
    let d = all_pointees_typed c.args.definitions.now c.args.r (ids_in (plain_operands c.args.operands.now)) in
    (λ y. d.0 (sym c.are_pointees.ensures ∙ y), λ r. c.are_pointees.ensures ∙ d.1 r)
