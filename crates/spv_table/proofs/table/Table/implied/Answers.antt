use Rattle.std.proofs.Common.{List, subst, arith}
use Rattle.spv_table.specs.declared.table.Enumerant.{Enumerant}
use Rattle.spv_table.specs.Implied.{capabilities_in}
use Rattle.spv_table.specs.inner.Reached.{AddsAll, listed_by}
use Rattle.spv_table.proofs.Search.{started, taken, followed, answered, less_work, capabilities_at, none_listed}
use Rattle.spv_table.proofs.table.Table.implied.Goals as goal

pub returns-in_default : goal.returns-in_default
returns-in_default c =
    let begun = started c.args.self.now c.args.declared.now c.new-reached.result c.add_all.new.self c.new-reached.ensures.all c.new-reached.ensures.due c.in_ok-add_all.ensures in
    answered c.args.self.now c.args.declared.now c.add_all.new.self begun (λ a b m l. none_listed c.args.self.now c.in_default.ensures a b l)

pub loop-capability-init : goal.loop-capability-init
loop-capability-init c = started c.args.self.now c.args.declared.now c.new-reached.result c.add_all.new.self c.new-reached.ensures.all c.new-reached.ensures.due c.in_ok-add_all.ensures

pub loop-capability-smaller : goal.loop-capability-smaller
loop-capability-smaller c =
    let G = c.args.self.now in
    let P : List Enumerant → Type 0 = λ es. AddsAll (listed_by es c.in-Some-pop.capability) (record { all = c.loop-capability.reached.all; due = c.pop.new.self }) c.follow.new.self in
    less_work (capabilities_in G) c.loop-capability.reached c.follow.new.self c.pop.new.self c.in-Some-pop.capability c.in-Some-pop.ensures.items
    (subst P (capabilities_at G c.in-Some.kind c.in-Some.ensures) c.in_ok-follow.ensures)

pub loop-capability-preserved : goal.loop-capability-preserved
loop-capability-preserved c =
    let G = c.args.self.now in
    let P : List Enumerant → Type 0 = λ es. AddsAll (listed_by es c.in-Some-pop.capability) (record { all = c.loop-capability.reached.all; due = c.pop.new.self }) c.follow.new.self in
    let t = taken G c.args.declared.now c.loop-capability.reached c.pop.new.self c.in-Some-pop.capability c.in-Some-pop.ensures.items c.loop-capability.invariant in
    followed G c.args.declared.now (record { all = c.loop-capability.reached.all; due = c.pop.new.self }) c.follow.new.self c.in-Some-pop.capability (c.loop-capability.invariant.sound c.in-Some-pop.capability t.0)
    (subst P (capabilities_at G c.in-Some.kind c.in-Some.ensures) c.in_ok-follow.ensures) t.1

pub returns : goal.returns
returns c = answered c.args.self.now c.args.declared.now c.loop-capability.reached c.loop-capability.invariant (λ a b m l. let none = c.in_default-pop.ensures.cases.0 in omega (arith, none, m.1))
