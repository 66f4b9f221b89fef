use Rattle.std.proofs.Common.{◌≡◌, ℕ, map, refl, subst, arith}
use Rattle.spv_declarations.specs.inner.Sets.{IsIn}
use Rattle.spv_flow_evidence.specs.calls.inner.Edges.{edge_of}
use Rattle.spv_standard_evidence.specs.inner.Interfaces.{AddsEdges, MissesBefore}
use Rattle.spv_standard_evidence.proofs.Missed.{edges_more, edges_none, edges_past}
use Rattle.spv_standard_evidence.proofs.interfaces.missing.edges_to.Goals.{in-Some+in_ok-push, in_default}
use Rattle.spv_standard_evidence.proofs.interfaces.missing.edges_to.Goals as goal

pub loop-number-init : goal.loop-number-init
loop-number-init c = λ G fit.
    edges_none G c.args.minor c.args.definitions.now (IsIn c.args.named.now) c.args.total (map edge_of c.args.calls.now)
    c.in_ok-edges.edges.items c.in_ok-edges.ensures

pub loop-number-preserved : goal.loop-number-preserved
loop-number-preserved c = λ G fit.
    let old = map edge_of c.args.calls.now in
    let now = c.loop-number.edges.items in
    let Named = IsIn c.args.named.now in
    elim c.match-missing_at.branch [
      | in-Some+in_ok-push w ↦
          rw (w.edges-is, w.in_ok-push.ensures.items)
          (edges_more G c.args.minor c.args.definitions.now Named c.args.total c.loop-number.number
          w.in-Some.missing.function w.in-Some.missing.id old now
          record { from = w.in-Some.missing.function; to = c.args.total } refl refl (w.in-Some.ensures G fit)
          (c.loop-number.invariant G fit))
      | in_default w ↦
          rw w.edges-is
          (edges_past G c.args.minor c.args.definitions.now Named c.args.total c.loop-number.number old now
          (w.in_default.ensures G fit) (c.loop-number.invariant G fit))
    ]

pub returns : goal.returns
returns c = λ G fit.
    let t = c.loop-number-test.false in
    let u = c.loop-number.auto.number-end in
    let e : c.loop-number.number ≡ c.args.total = omega (arith, t, u) in
    subst (λ (n : ℕ). AddsEdges (MissesBefore G c.args.minor c.args.definitions.now (IsIn c.args.named.now) n)
    c.args.total (map edge_of c.args.calls.now) c.loop-number.edges.items) e (c.loop-number.invariant G fit)
