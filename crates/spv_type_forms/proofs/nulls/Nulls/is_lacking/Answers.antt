use Rattle.std.proofs.Common.{◌≡◌, true, false}
use Rattle.spv_type_forms.proofs.Lacking.{of_undefined}
use Rattle.spv_type_forms.proofs.nulls.Nulls.is_lacking.Goals as goal

pub returns-in-None-clause-answer : goal.returns-in-None-clause-answer
returns-in-None-clause-answer c = (
  λ y. absurd (let no : false ≡ true = y in cc),
  λ h. absurd (of_undefined c.args.definitions.now c.args.t c.in-None.ensures h),
)
