use Rattle.spv_module.specs.Module.{plain_operands}
use Rattle.spv_type_kinds.specs.Operands.{ids_in}
use Rattle.spv_type_forms.proofs.TagTests.{fills_typed}
use Rattle.spv_type_forms.proofs.several.fills.Goals as goal

pub returns : goal.returns
returns c =
    let d = fills_typed c.args.definitions.now c.args.r (ids_in (plain_operands c.args.operands.now)) in
    (λ y. d.0 (c.fits.ensures.0 y), λ r. c.fits.ensures.1 (d.1 r))
