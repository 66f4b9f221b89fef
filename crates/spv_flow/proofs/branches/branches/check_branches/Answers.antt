use Rattle.std.proofs.Common.{◌≡◌, length, map, arith}
use Rattle.spv_module.specs.Module.{plain_inst, plain_insts}
use Rattle.spv_flow.proofs.lemmas.branches.Firsts.{broken_within, refusal_told, few_insts}
use Rattle.spv_flow.proofs.branches.branches.check_branches.Goals as goal

pub first_fault-requires : goal.first_fault-requires
first_fault-requires c =
    let v = c.as_slice-insts.ensures.value in
    let xs = c.as_slice-insts.result.now in
    let k = c.requires.known in
    (k.0, record { plan = rw v k.1; each = rw v k.2.each; most = few_insts xs (rw v c.requires.words) })

pub stop_at-requires : goal.stop_at-requires
stop_at-requires c =
    let v = c.as_slice-insts.ensures.value in
    let xs = c.as_slice-insts.result.now in
    let k = c.requires.known in
    let h = rw c.in-Some.is at c.in_ok-found.ensures in
    let f = h k.0 (record { plan = rw v k.1; each = rw v k.2.each; most = few_insts xs (rw v c.requires.words) }) in
    let w = broken_within c.args.fork k.0 (map plain_inst xs) c.in-Some.found.rule c.in-Some.found.inst f.of_stage
    f.broken in
    let n : length c.args.plan.now ≡ length (map plain_inst xs) = rw v k.1.count in
    omega (arith, w, n)

pub returns-in-Some-clause-refused : goal.returns-in-Some-clause-refused
returns-in-Some-clause-refused c = λ G p a.
    let v = c.as_slice-insts.ensures.value in
    let xs = c.as_slice-insts.result.now in
    let h = rw c.in-Some.is at c.in_ok-found.ensures in
    let f = h G (record { plan = rw v p; each = rw v a.each; most = few_insts xs (rw v c.requires.words) }) in
    refusal_told c.args.fork G (plain_insts c.args.module.now) c.in-Some.found.rule c.in-Some.found.inst
    c.stop_at.result
    (rw v at f) (c.stop_at.ensures (plain_insts c.args.module.now) p.place)

pub returns-clause-unbroken : goal.returns-clause-unbroken
returns-clause-unbroken c = λ G p a.
    let v = c.as_slice-insts.ensures.value in
    let xs = c.as_slice-insts.result.now in
    let h = rw c.in_default.is at c.in_ok-found.ensures in
    let u = h G (record { plan = rw v p; each = rw v a.each; most = few_insts xs (rw v c.requires.words) }) in
    rw v at u
