use Rattle.std.proofs.Common.{◌+◌, ◌-◌, length, subst, sym}
use Rattle.spv_module.specs.Module.{plain_inst}
use Rattle.spv_conditions.specs.declared.asked.Asked.{Asked}
use Rattle.spv_conditions.specs.Condition.{FailsFirst}
use Rattle.spv_conditions.specs.Asks.{of_each, each_from}
use Rattle.spv_conditions.specs.inner.Direct.{HoldsDirectly}
use Rattle.spv_conditions.proofs.lemmas.Listing.{each_front, each_end, one_more, one_fails}
use Rattle.spv_conditions.proofs.first.first_of_each.Goals as goal

pub returns-then-not-holds : goal.returns-then-not-holds
returns-then-not-holds c =
    let P = HoldsDirectly c.args.definitions.now c.args.number (plain_inst c.args.inst.now) c.args.r c.args.types.now in
    let k = c.loop-k.k in
    let n = length c.args.types.now in
    let front = each_front P c.args.each k n (each_from c.args.each 0 n) c.loop-k-test.true c.loop-k.invariant in
    let same = sym c.of_each-asked.ensures in
    subst (λ (a : Asked). FailsFirst P (each_from c.args.each 0 n) a) same
    (one_fails P (of_each c.args.each k) (each_from c.args.each (k + 1) (n - (k + 1))) (each_from c.args.each 0 n) front
    (λ h. let on = c.holds.ensures.1 (subst P same h) in let off = c.if-not-holds.true in cc))

pub loop-k-preserved : goal.loop-k-preserved
loop-k-preserved c =
    let P = HoldsDirectly c.args.definitions.now c.args.number (plain_inst c.args.inst.now) c.args.r c.args.types.now in
    let k = c.loop-k.k in
    let n = length c.args.types.now in
    let front = each_front P c.args.each k n (each_from c.args.each 0 n) c.loop-k-test.true c.loop-k.invariant in
    one_more P (of_each c.args.each k) (each_from c.args.each (k + 1) (n - (k + 1))) (each_from c.args.each 0 n) front
    (subst P c.of_each-asked.ensures (c.holds.ensures.0 c.if-not-holds.false))

pub returns : goal.returns
returns c = each_end (HoldsDirectly c.args.definitions.now c.args.number
    (plain_inst c.args.inst.now) c.args.r c.args.types.now) c.args.each c.loop-k.k (length c.args.types.now)
    (each_from c.args.each 0 (length c.args.types.now)) c.loop-k-test.false c.loop-k.invariant
