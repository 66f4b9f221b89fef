use Rattle.std.proofs.Common.{refl, sym, subst, ap, true, take}
use Rattle.std.specs.List.{AllByRecursion}
use Rattle.spv_module.specs.Module.{plain_inst, plain_operands}
use Rattle.spv_standard.specs.inner.Silent.{IsSilent}
use Rattle.spv_standard.proofs.Singles.{asked_at, never_so, none_same}
use Rattle.spv_standard.proofs.asked.Asked.at.Goals as goal

pub returns-then-not-are_told : goal.returns-then-not-are_told
returns-then-not-are_told c = λ G minor is n late at asked.
    let i = plain_inst c.args.inst.now in
    asked_at G minor is n c.args.late.now i c.args.self at asked
    (none_same c.args.late.now i (plain_operands c.as_slice.result.now) (ap plain_operands c.as_slice.ensures.value)
    (c.are_told.ensures late.floors (subst (λ os. AllByRecursion IsSilent (take c.args.self.silent (plain_operands os)))
    (sym c.as_slice.ensures.value) (asked.silent n i at refl)) c.if-not-are_told.true))

pub returns : goal.returns
returns c = λ G minor is n late at asked. record {
  operands = λ e r. asked.operands e n (plain_inst c.args.inst.now) at refl r;
  version = λ e. never_so true e refl;
  limits = λ e counts up_to. never_so true e refl;
}
