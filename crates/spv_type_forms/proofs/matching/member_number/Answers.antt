use Rattle.std.proofs.Common.{length, sym, subst, ap}
use Rattle.spv_module.specs.Operand.{Plain}
use Rattle.spv_module.specs.Module.{plain_operand}
use Rattle.spv_type_forms.specs.inner.Matching.{IsMemberNumber}
use Rattle.spv_type_forms.proofs.Matched.{Finds, of_member}
use Rattle.spv_type_forms.proofs.matching.member_number.Goals as goal

pub returns-in-Id : goal.returns-in-Id
returns-in-Id c =
    let is = c.args.definitions.now in
    let cs = c.args.numbers.now in
    subst (λ (o : Plain). Finds (IsMemberNumber is cs (length cs) o) c.number_of.result)
    (ap plain_operand (sym c.in-Id.is)) (of_member is cs (length cs) c.in-Id.u c.number_of.result c.number_of.ensures)
