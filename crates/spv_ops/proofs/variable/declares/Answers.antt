use Rattle.std.proofs.Common.{◌≡◌, ◌∙◌, sym, true, false}
use Rattle.spv_ops.proofs.Parts.{iff_to}
use Rattle.spv_ops.proofs.Pointing.{with_three, not_three}
use Rattle.spv_ops.proofs.variable.declares.Goals as goal

pub returns-then-may_declare : goal.returns-then-may_declare
returns-then-may_declare c =
    iff_to c.all_pointees.ensures (with_three _ _ (c.may_declare.ensures.0 c.if-may_declare.true))

pub returns-else-may_declare : goal.returns-else-may_declare
returns-else-may_declare c = (
  λ h. absurd (let no : false ≡ true = sym c.if-may_declare.false ∙ h in cc),
  λ h. c.may_declare.ensures.1 (not_three _ _ h),
)
