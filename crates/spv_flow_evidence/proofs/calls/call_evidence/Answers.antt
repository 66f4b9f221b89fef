use Rattle.std.proofs.Common.{◌≡◌, false, map, length, replicate}
use Rattle.std.proofs.lemmas.List.{length-map}
use Rattle.spv_module.specs.Module.{plain_inst, plain_insts}
use Rattle.spv_module.specs.declared.fault.Rule.TheVariants.{G1}
use Rattle.spv_flow.specs.calls.Broken.{Broken}
use Rattle.spv_flow.specs.calls.inner.Found.{ArePlaces}
use Rattle.spv_ids.specs.Outcome.{AreNumbered}
use Rattle.spv_flow_evidence.specs.calls.inner.Edges.{edge_of, IsListed, IsNotListed}
use Rattle.spv_flow.proofs.lemmas.branches.Firsts.{few_insts}
use Rattle.spv_flow_evidence.proofs.lemmas.calls.Walked.{is_listed, ready, evidence}
use Rattle.spv_flow_evidence.proofs.calls.call_evidence.Goals as goal

pub calls_of-requires-clause-few : goal.calls_of-requires-clause-few
calls_of-requires-clause-few c =
    few_insts c.as_slice-insts.result.now (rw c.as_slice-insts.ensures.value c.requires.words)

pub calls_of-requires-clause-places : goal.calls_of-requires-clause-places
calls_of-requires-clause-places c =
    let p = c.requires.plan.1 in
    let a : ArePlaces (plain_insts c.args.module.now) c.args.plan.now = record { count = p.count; place = p.place } in
    rw c.as_slice-insts.ensures.value a

pub calls_of-requires-clause-ids : goal.calls_of-requires-clause-ids
calls_of-requires-clause-ids c =
    let a : AreNumbered (plain_insts c.args.module.now) c.args.ids.now = record { each = c.requires.ids } in
    rw c.as_slice-insts.ensures.value a

pub entries_of-requires : goal.entries_of-requires
entries_of-requires c =
    let a : AreNumbered (plain_insts c.args.module.now) c.args.ids.now = record { each = c.requires.ids } in
    rw c.as_slice-insts.ensures.value a

pub unreachable-requires : goal.unreachable-requires
unreachable-requires c =
    let insts = c.as_slice-insts.result.now in
    let calls = c.in_ok-calls.calls.items in
    let k : Broken (map plain_inst insts) G1 c.args.inst = rw c.as_slice-insts.ensures.value c.requires.broken in
    let n : IsNotListed calls c.args.inst = rw c.deref-2.ensures.value at c.in_default.ensures in
    let r = is_listed (map plain_inst insts) calls (rw length-map c.in_ok-calls.ensures) G1 c.args.inst k in
    n.each r.0 r.1

pub way_to-requires : goal.way_to-requires
way_to-requires c =
    let insts = c.as_slice-insts.result.now in
    let calls = c.in_ok-calls.calls.items in
    let entries = c.in_ok-entries.entries.items in
    let closed = c.in_ok-closed.closed.items in
    let open' : closed ≡ replicate (length insts) false = c.in_ok-closed.ensures.items_if_clones_equal (λ y k. k) in
    let edges : c.in_ok-edges.edges.items ≡ map edge_of calls = rw c.deref.ensures.value at c.in_ok-edges.ensures in
    let l : IsListed calls c.args.inst c.in-Some.call = rw c.deref-2.ensures.value at c.in-Some.ensures in
    let few = few_insts insts (rw c.as_slice-insts.ensures.value c.requires.words) in
    let k : Broken (map plain_inst insts) G1 c.args.inst = rw c.as_slice-insts.ensures.value c.requires.broken in
    let r = ready insts calls entries closed c.args.inst c.in-Some.call open' c.in_ok-calls.ensures l
    c.in_ok-edges.edges.items edges few c.in_ok-entries.ensures k in
    rw (c.deref-3.ensures.value, c.deref-4.ensures.value, c.deref-5.ensures.value)
    (record { within = r.within; starts = r.starts; goal = r.caller; few = r.few; reached = r.reached.caller })

pub way_to-requires-2 : goal.way_to-requires-2
way_to-requires-2 c =
    let insts = c.as_slice-insts.result.now in
    let calls = c.in_ok-calls.calls.items in
    let entries = c.in_ok-entries.entries.items in
    let closed = c.in_ok-closed.closed.items in
    let open' : closed ≡ replicate (length insts) false = c.in_ok-closed.ensures.items_if_clones_equal (λ y k. k) in
    let edges : c.in_ok-edges.edges.items ≡ map edge_of calls = rw c.deref.ensures.value at c.in_ok-edges.ensures in
    let l : IsListed calls c.args.inst c.in-Some.call = rw c.deref-2.ensures.value at c.in-Some.ensures in
    let few = few_insts insts (rw c.as_slice-insts.ensures.value c.requires.words) in
    let k : Broken (map plain_inst insts) G1 c.args.inst = rw c.as_slice-insts.ensures.value c.requires.broken in
    let r = ready insts calls entries closed c.args.inst c.in-Some.call open' c.in_ok-calls.ensures l
    c.in_ok-edges.edges.items edges few c.in_ok-entries.ensures k in
    rw (c.deref-6.ensures.value, c.deref-7.ensures.value)
    (record { within = r.within; starts = r.callee; goal = r.caller; few = r.few; reached = r.reached.back })

pub returns : goal.returns
returns c =
    let insts = c.as_slice-insts.result.now in
    let calls = c.in_ok-calls.calls.items in
    let entries = c.in_ok-entries.entries.items in
    let closed = c.in_ok-closed.closed.items in
    let open' : closed ≡ replicate (length insts) false = c.in_ok-closed.ensures.items_if_clones_equal (λ y k. k) in
    let edges : c.in_ok-edges.edges.items ≡ map edge_of calls = rw c.deref.ensures.value at c.in_ok-edges.ensures in
    let l : IsListed calls c.args.inst c.in-Some.call = rw c.deref-2.ensures.value at c.in-Some.ensures in
    let s = rw (c.deref-3.ensures.value, c.deref-4.ensures.value, c.deref-5.ensures.value) at c.in_ok-to_caller.ensures
    in
    let t = rw (c.deref-6.ensures.value, c.deref-7.ensures.value) at c.in_ok-back.ensures in
    rw (← c.as_slice-insts.ensures.value)
    (evidence insts calls entries closed c.args.inst c.in-Some.call open' c.in_ok-calls.ensures l
    c.in_ok-edges.edges.items c.in_ok-to_caller.to_caller c.in_ok-back.back edges
    c.in_ok-entries.ensures s t)
