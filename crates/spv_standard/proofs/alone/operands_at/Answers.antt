use Rattle.std.proofs.Common.{subst}
use Rattle.spv_kernel_operands.specs.inner.First.{IsFirstAt}
use Rattle.spv_standard.proofs.Singles.{operands_at}
use Rattle.spv_standard.proofs.alone.operands_at.Goals as goal

pub returns-in-Some : goal.returns-in-Some
returns-in-Some c = λ quiet.
    let G = c.args.capabilities.now.table in
    let is = c.args.definitions.now in
    operands_at G is c.args.number c.in-Some.rule
    (subst (λ o. IsFirstAt G is c.args.number o) c.in-Some.is c.in_ok-rule.ensures)
