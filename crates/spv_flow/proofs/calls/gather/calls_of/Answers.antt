use Rattle.std.proofs.Common.{◌≡◌, ℕ, length, map, subst, arith}
use Rattle.std.proofs.lemmas.List.{length-map}
use Rattle.spv_module.specs.Module.{plain_inst}
use Rattle.spv_layout.proofs.Misfits.{inst_there}
use Rattle.spv_flow.specs.calls.inner.Found.{AreCalls}
use Rattle.spv_flow.proofs.lemmas.calls.Gathering.{calls_none, calls_more, calls_past}
use Rattle.spv_flow.proofs.calls.gather.calls_of.Goals.{in-Some+in_ok-push, in_default}
use Rattle.spv_flow.proofs.calls.gather.calls_of.Goals as goal

pub loop-i-preserved : goal.loop-i-preserved
loop-i-preserved c =
    let is = map plain_inst c.args.insts.now in
    let h = inst_there c.args.insts.now c.loop-i.i c.index-insts-i.result c.loop-i-test.true c.index-insts-i.is in
    elim c.match-call_at.branch [
      | in-Some+in_ok-push w ↦
          rw (w.calls-is, w.in_ok-push.ensures.items)
          (calls_more is c.args.ids.now c.loop-i.i c.loop-i.calls.items w.in-Some.call c.requires.ids c.loop-i.invariant
          (w.in-Some.ensures is c.requires.places c.requires.ids h))
      | in_default w ↦ rw w.calls-is (calls_past is c.loop-i.i c.loop-i.calls.items c.loop-i.invariant
          (w.in_default.ensures is c.requires.places c.requires.ids h))
    ]

pub before_functions-i-requires : goal.before_functions-i-requires
before_functions-i-requires c =
    let few = c.requires.few in
    let count = c.requires.places.count in
    let l = length-map c.args.insts.now plain_inst in
    omega (arith, few, count, l)

pub loop-i-init : goal.loop-i-init
loop-i-init c =
    let is = map plain_inst c.args.insts.now in
    let before = c.before_functions-i.ensures.before in
    let places = c.requires.places.place in
    rw c.new-calls.ensures.items (calls_none is c.before_functions-i.result (λ k lt. before is k places lt))

pub returns : goal.returns
returns c =
    let last = c.loop-i-test.false in
    let within = c.before_functions-i.ensures.within in
    let count = c.requires.places.count in
    let l = length-map c.args.insts.now plain_inst in
    let to = c.loop-i.auto.i-end (omega (arith, within, count, l)) in
    let e : c.loop-i.i ≡ length c.args.insts.now = omega (arith, last, to) in
    subst (λ (n : ℕ). AreCalls (map plain_inst c.args.insts.now) n c.loop-i.calls.items) e c.loop-i.invariant
