use Rattle.std.proofs.Common.{[], length, subst, sym}
use Rattle.spv_module.specs.Module.{plain_inst}
use Rattle.spv_conditions.specs.declared.asked.Asks.{Asks}
use Rattle.spv_conditions.specs.Condition.{FailsFirst}
use Rattle.spv_conditions.specs.Asks.{asked_by}
use Rattle.spv_conditions.specs.inner.Direct.{HoldsDirectly}
use Rattle.spv_conditions.proofs.lemmas.Listing.{alone}
use Rattle.spv_conditions.proofs.first.first_of.Goals as goal

pub returns-else-holds : goal.returns-else-holds
returns-else-holds c =
    let P = HoldsDirectly c.args.definitions.now c.args.number (plain_inst c.args.inst.now) c.args.r c.args.types.now in
    subst (λ (q : Asks). FailsFirst P (asked_by q (length c.args.types.now)) c.in-Once.asked) (sym c.in-Once.is)
    (alone P c.in-Once.asked [] (λ h. let on = c.holds.ensures.1 h in let off = c.if-holds.false in cc))
