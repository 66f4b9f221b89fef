use Rattle.std.proofs.Common.{map, length, arith}
use Rattle.std.proofs.lemmas.List.{length-map}
use Rattle.std.proofs.lemmas.Option.{slice_get_within}
use Rattle.spv_module.specs.Module.{plain_inst, plain_insts}
use Rattle.spv_layout.specs.Place.{IsShort}
use Rattle.spv_layout.proofs.Misfits.{short_list}
use Rattle.spv_flow.specs.calls.inner.Graph.{IsFirstCyclic}
use Rattle.spv_flow.specs.calls.inner.Found.{ArePlaces}
use Rattle.spv_ids.specs.Outcome.{AreNumbered}
use Rattle.spv_flow.proofs.lemmas.calls.Lists.{found}
use Rattle.spv_flow.proofs.lemmas.calls.Bridge.{calls_within, entries_below, none_broken, first_told}
use Rattle.spv_flow.proofs.lemmas.calls.Orders.{acyclic_unbroken}
use Rattle.spv_flow.proofs.calls.calls.first_cycle.Goals as goal

pub calls_of-requires-clause-few : goal.calls_of-requires-clause-few
calls_of-requires-clause-few c =
    let v = c.as_slice-insts.ensures.value in
    let xs = c.as_slice-insts.result.now in
    let s = short_list (map plain_inst xs) in
    let l = length-map xs plain_inst in
    let q : IsShort (map plain_inst xs) = rw v c.requires.words in
    omega arith

pub calls_of-requires-clause-places : goal.calls_of-requires-clause-places
calls_of-requires-clause-places c =
    let p = c.requires.plan.1 in
    let a : ArePlaces (plain_insts c.args.module.now) c.args.plan.now = record { count = p.count; place = p.place } in
    rw c.as_slice-insts.ensures.value a

pub calls_of-requires-clause-ids : goal.calls_of-requires-clause-ids
calls_of-requires-clause-ids c =
    let a : AreNumbered (plain_insts c.args.module.now) c.args.ids.now = record { each = c.requires.ids } in
    rw c.as_slice-insts.ensures.value a

pub entries_of-requires : goal.entries_of-requires
entries_of-requires c =
    let a : AreNumbered (plain_insts c.args.module.now) c.args.ids.now = record { each = c.requires.ids } in
    rw c.as_slice-insts.ensures.value a

pub first_cyclic-requires-clause-within : goal.first_cyclic-requires-clause-within
first_cyclic-requires-clause-within c =
    let xs = c.as_slice-insts.result.now in
    rw (c.deref-2.ensures.value, ← length-map xs plain_inst)
    (calls_within (map plain_inst xs) (length xs) c.in_ok-calls.calls.items c.in_ok-calls.ensures)

pub first_cyclic-requires-clause-starts : goal.first_cyclic-requires-clause-starts
first_cyclic-requires-clause-starts c =
    let xs = c.as_slice-insts.result.now in
    rw (c.deref-3.ensures.value, ← length-map xs plain_inst)
    (entries_below (map plain_inst xs) (length xs) c.in_ok-entries.entries.items c.in_ok-entries.ensures)

pub returns-then-are_ordered-clause-none : goal.returns-then-are_ordered-clause-none
returns-then-are_ordered-clause-none c =
    let xs = c.as_slice-insts.result.now in
    let y = rw c.deref.ensures.value at (c.are_ordered.ensures c.if-are_ordered.true) in
    let a = rw (← length-map xs plain_inst) at c.in_ok-calls.ensures in
    rw (← c.as_slice-insts.ensures.value) (acyclic_unbroken (map plain_inst xs) c.in_ok-calls.calls.items a y)

pub index-requires : goal.index-requires
index-requires c =
    let calls = c.in_ok-calls.calls.items in
    let f : IsFirstCyclic calls c.in_ok-entries.entries.items c.in-Some.first = rw
    (c.in-Some.is, c.deref-2.ensures.value, c.deref-3.ensures.value) at c.in_ok-first.ensures in
    let w = slice_get_within calls c.in-Some.first f.cyclic.call f.cyclic.there in
    let v = c.in_ok-calls.calls.ok.0 in
    omega arith

pub returns-in-Some-clause-first : goal.returns-in-Some-clause-first
returns-in-Some-clause-first c =
    let xs = c.as_slice-insts.result.now in
    let is = map plain_inst xs in
    let calls = c.in_ok-calls.calls.items in
    let f : IsFirstCyclic calls c.in_ok-entries.entries.items c.in-Some.first = rw
    (c.in-Some.is, c.deref-2.ensures.value, c.deref-3.ensures.value) at c.in_ok-first.ensures in
    let w = slice_get_within calls c.in-Some.first f.cyclic.call f.cyclic.there in
    let a = rw (← length-map xs plain_inst) at c.in_ok-calls.ensures in
    let b = rw (← length-map xs plain_inst) at c.in_ok-entries.ensures in
    let h = found calls c.in-Some.first c.index.result.now w c.index.ensures in
    rw (← c.as_slice-insts.ensures.value) (first_told is calls c.in_ok-entries.entries.items c.in-Some.first
    c.index.result.now a b h f)

pub returns-clause-none : goal.returns-clause-none
returns-clause-none c =
    let xs = c.as_slice-insts.result.now in
    let is = map plain_inst xs in
    let n = rw (c.in-None.is, c.deref-2.ensures.value, c.deref-3.ensures.value) at c.in_ok-first.ensures in
    let a = rw (← length-map xs plain_inst) at c.in_ok-calls.ensures in
    let b = rw (← length-map xs plain_inst) at c.in_ok-entries.ensures in
    rw (← c.as_slice-insts.ensures.value) (none_broken is c.in_ok-calls.calls.items c.in_ok-entries.entries.items a b n)
