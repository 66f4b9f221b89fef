use Rattle.std.proofs.Common.{◌≡◌, ◌+◌, length, replicate, false, arith}
use Rattle.spv_declarations.specs.inner.Sets.{IsIn}
use Rattle.spv_interfaces.proofs.Unused.{same_length}
use Rattle.spv_standard_evidence.proofs.Missed.{led, ready, their_calls, unreached}
use Rattle.spv_standard_evidence.proofs.interfaces.missing.way_to.Goals as goal

pub edges_to-requires : goal.edges_to-requires
edges_to-requires c =
    let l = same_length c.args.definitions.now c.args.insts.now c.requires.same in
    omega (arith, l)

pub shortest_way-requires-clause-within : goal.shortest_way-requires-clause-within
shortest_way-requires-clause-within c =
    let is = c.args.definitions.now in
    let insts = c.args.insts.now in
    let n = same_length is insts c.requires.same in
    let r = c.requires.reached in
    let Named = IsIn c.args.named.now in
    let calls = c.in_ok-calls.calls.items in
    let edges = c.in_ok-edges.edges.items in
    let closed = c.in_ok-closed.closed.items in
    let a = their_calls is insts calls c.requires.same c.in_ok-calls.ensures in
    let adds = rw c.deref.ensures.value at (c.in_ok-edges.ensures r.0 r.1) in
    let open' : closed ≡ replicate (length is + 1) false =
    rw n (c.in_ok-closed.ensures.items_if_clones_equal (λ y k. k)) in
    let few = c.requires.few in
    let all = ready r.0 c.args.minor is Named calls edges closed c.args.root (length insts) (omega (arith, n)) a adds
    open' c.requires.root (omega (arith, n, few)) in
    rw (c.deref-2.ensures.value, c.deref-3.ensures.value) all.within

pub unreachable-requires : goal.unreachable-requires
unreachable-requires c =
    let r = c.requires.reached in
    let is = c.args.definitions.now in
    let insts = c.args.insts.now in
    let n = same_length is insts c.requires.same in
    let Named = IsIn c.args.named.now in
    let calls = c.in_ok-calls.calls.items in
    let edges = c.in_ok-edges.edges.items in
    let closed = c.in_ok-closed.closed.items in
    let a = their_calls is insts calls c.requires.same c.in_ok-calls.ensures in
    let open' : closed ≡ replicate (length is + 1) false =
    rw n (c.in_ok-closed.ensures.items_if_clones_equal (λ y k. k)) in
    let adds = rw c.deref.ensures.value at (c.in_ok-edges.ensures r.0 r.1) in
    let none = rw (c.deref-2.ensures.value, c.deref-3.ensures.value) at (rw c.in-None.is at c.in_ok-nodes.ensures) in
    unreached r.0 c.args.minor is Named calls edges closed c.args.root (length insts) (omega (arith, n)) a adds open'
    c.requires.root r.2 none

pub returns : goal.returns
returns c = λ G fit.
    let is = c.args.definitions.now in
    let insts = c.args.insts.now in
    let n = same_length is insts c.requires.same in
    let Named = IsIn c.args.named.now in
    let calls = c.in_ok-calls.calls.items in
    let edges = c.in_ok-edges.edges.items in
    let closed = c.in_ok-closed.closed.items in
    let a = their_calls is insts calls c.requires.same c.in_ok-calls.ensures in
    let open' : closed ≡ replicate (length is + 1) false =
    rw n (c.in_ok-closed.ensures.items_if_clones_equal (λ y k. k)) in
    let adds = rw c.deref.ensures.value at (c.in_ok-edges.ensures G fit) in
    let s = rw (c.deref-2.ensures.value, c.deref-3.ensures.value) at (rw c.in-Some.is at c.in_ok-nodes.ensures) in
    led G c.args.minor is Named calls edges closed c.args.root (length insts) (omega (arith, n)) a adds open'
    c.requires.root c.in-Some.nodes.items s
