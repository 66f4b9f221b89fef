use Rattle.std.proofs.Common.{◌≡◌, length, map, arith}
use Rattle.std.proofs.lemmas.List.{length-map}
use Rattle.spv_module.specs.Module.{plain_inst, plain_insts}
use Rattle.spv_layout.specs.Stage.{of_branches}
use Rattle.spv_flow.proofs.lemmas.branches.Firsts.{few_insts}
use Rattle.spv_flow.proofs.lemmas.walks.Places.{no_function}
use Rattle.spv_flow.proofs.lemmas.walks.Staged.{unasked}
use Rattle.spv_flow.proofs.lemmas.walks.Telling.{unavailable_there, told, unbroken_by}
use Rattle.spv_flow.proofs.walks.values.check_values.Goals as goal

pub before_functions-globals-requires : goal.before_functions-globals-requires
before_functions-globals-requires c =
    let v = c.as_slice-insts.ensures.value in
    let xs = c.as_slice-insts.result.now in
    let few = few_insts xs (rw v c.requires.words) in
    let n : length c.args.plan.now ≡ length (map plain_inst xs) = rw v c.requires.known.2.count in
    let l = length-map xs plain_inst in
    omega (arith, few, n, l)

pub first_missing-requires-clause-code : goal.first_missing-requires-clause-code
first_missing-requires-clause-code c =
    let v = c.as_slice-insts.ensures.value in
    let xs = c.as_slice-insts.result.now in
    let k = c.requires.known in
    let g = no_function (map plain_inst xs) c.args.plan.now c.before_functions-globals.result (rw v k.2.place)
    c.before_functions-globals.ensures.before in (
      k.1,
      record {
        plan = rw v k.2;
        bound = c.args.module.now.header.bound;
        ids = rw v k.3;
        branches = unasked k.0 k.1 (map plain_inst xs) of_branches (rw v k.4);
        most = few_insts xs (rw v c.requires.words);
        global = g;
      },
    )

pub first_missing-requires-clause-most : goal.first_missing-requires-clause-most
first_missing-requires-clause-most c =
    let v = c.as_slice-insts.ensures.value in
    let xs = c.as_slice-insts.result.now in
    few_insts xs (rw v c.requires.words)

pub rule-requires : goal.rule-requires
rule-requires c =
    let v = c.as_slice-insts.ensures.value in
    let xs = c.as_slice-insts.result.now in
    let l = length-map xs plain_inst in
    let k = c.requires.known in
    let h = rw c.in-Some.is at c.in_ok-inst.ensures in
    let g = no_function (map plain_inst xs) c.args.plan.now c.before_functions-globals.result (rw v k.2.place)
    c.before_functions-globals.ensures.before in
    let f = h k.1 (record {
      plan = rw v k.2;
      bound = c.args.module.now.header.bound;
      ids = rw v k.3;
      branches = unasked k.0 k.1 (map plain_inst xs) of_branches (rw v k.4);
      most = few_insts xs (rw v c.requires.words);
      global = g;
    }) in
    let w = unavailable_there k.1 (map plain_inst xs) c.in-Some.inst f.0 in
    omega (arith, w, l)

pub stop_at-requires : goal.stop_at-requires
stop_at-requires c =
    let v = c.as_slice-insts.ensures.value in
    let xs = c.as_slice-insts.result.now in
    let k = c.requires.known in
    let h = rw c.in-Some.is at c.in_ok-inst.ensures in
    let g = no_function (map plain_inst xs) c.args.plan.now c.before_functions-globals.result (rw v k.2.place)
    c.before_functions-globals.ensures.before in
    let f = h k.1 (record {
      plan = rw v k.2;
      bound = c.args.module.now.header.bound;
      ids = rw v k.3;
      branches = unasked k.0 k.1 (map plain_inst xs) of_branches (rw v k.4);
      most = few_insts xs (rw v c.requires.words);
      global = g;
    }) in
    let w = unavailable_there k.1 (map plain_inst xs) c.in-Some.inst f.0 in
    let n : length c.args.plan.now ≡ length (map plain_inst xs) = rw v k.2.count in
    omega (arith, w, n)

pub returns-in-Some-clause-refused : goal.returns-in-Some-clause-refused
returns-in-Some-clause-refused c = λ fork G p a b.
    let v = c.as_slice-insts.ensures.value in
    let xs = c.as_slice-insts.result.now in
    let h = rw c.in-Some.is at c.in_ok-inst.ensures in
    let g = no_function (map plain_inst xs) c.args.plan.now c.before_functions-globals.result (rw v p.place)
    c.before_functions-globals.ensures.before in
    let f = h G (record {
      plan = rw v p;
      bound = c.args.module.now.header.bound;
      ids = rw v a;
      branches = unasked fork G (map plain_inst xs) of_branches (rw v b);
      most = few_insts xs (rw v c.requires.words);
      global = g;
    }) in
    told fork G (plain_insts c.args.module.now) c.rule.result c.in-Some.inst c.stop_at.result (rw v at c.rule.ensures)
    (rw v at f) (c.stop_at.ensures (plain_insts c.args.module.now) p.place)

pub returns-clause-unbroken : goal.returns-clause-unbroken
returns-clause-unbroken c = λ fork G p a b.
    let v = c.as_slice-insts.ensures.value in
    let xs = c.as_slice-insts.result.now in
    let h = rw c.in_default.is at c.in_ok-inst.ensures in
    let g = no_function (map plain_inst xs) c.args.plan.now c.before_functions-globals.result (rw v p.place)
    c.before_functions-globals.ensures.before in
    let u = h G (record {
      plan = rw v p;
      bound = c.args.module.now.header.bound;
      ids = rw v a;
      branches = unasked fork G (map plain_inst xs) of_branches (rw v b);
      most = few_insts xs (rw v c.requires.words);
      global = g;
    }) in
    let n = unbroken_by fork G (map plain_inst xs) u in
    rw v at n
