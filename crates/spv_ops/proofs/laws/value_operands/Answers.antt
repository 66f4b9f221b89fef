use Rattle.std.proofs.Common.{sym, ◌∙◌}
use Rattle.spv_ops.proofs.ValuePlaces.{values_agree}
use Rattle.spv_ops.proofs.laws.value_operands.Goals as goal

pub returns : goal.returns
returns c = λ G i xs fits some. (
  λ v. sym v.values ∙ values_agree G i v.forms v.has some,
  λ e. record { forms = fits.forms; has = fits.has; values = values_agree G i fits.forms fits.has some ∙ sym e },
)
