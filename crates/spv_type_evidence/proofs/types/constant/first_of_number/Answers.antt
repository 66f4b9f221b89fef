use Rattle.std.proofs.lemmas.Bool.{iff_false}
use Rattle.spv_module.specs.Module.{plain_operands}
use Rattle.spv_type_evidence.proofs.lemmas.types.Parts.{unfit_number}
use Rattle.spv_type_evidence.proofs.types.constant.first_of_number.Goals as goal

pub returns-then-not-fits_width : goal.returns-then-not-fits_width
returns-then-not-fits_width c =
    unfit_number c.args.definitions.now c.args.r c.in-Some.low (plain_operands c.args.operands.now) c.in-Some.ensures
    (c.is_number.ensures.0 c.if-not-is_number.false)
    (iff_false c.fits_width.ensures c.if-not-fits_width.true)
