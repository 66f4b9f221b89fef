use Rattle.std.proofs.Common.{◌≡◌, List, length, map, ap, subst, arith}
use Rattle.std.proofs.lemmas.List.{length-map}
use Rattle.spv_module.specs.Module.{plain_inst, plain_insts}
use Rattle.spv_module.specs.Operand.{PlainInst}
use Rattle.spv_layout.specs.Stage.{of_standard}
use Rattle.spv_layout.specs.First.{IsFirst, IsUnbroken}
use Rattle.spv_flow.proofs.lemmas.branches.Firsts.{few_insts}
use Rattle.spv_block_order.specs.Broken.{Broken}
use Rattle.spv_block_order.proofs.Coding.{code_is, sound_is}
use Rattle.spv_block_order.proofs.Telling.{broken_there}
use Rattle.spv_block_order.proofs.Joining.{told}
use Rattle.spv_block_order.proofs.check.check_order.Goals as goal

pub before_functions-globals-requires : goal.before_functions-globals-requires
before_functions-globals-requires c =
    let v = c.as_slice-insts.ensures.value in
    let xs = c.as_slice-insts.result.now in
    let few = few_insts xs (rw v c.requires.words) in
    let n : length c.args.plan.now ≡ length (map plain_inst xs) = rw v c.requires.known.2.count in
    let l = length-map xs plain_inst in
    record { few = omega (arith, few, n, l) }

pub first_fault-requires-clause-code : goal.first_fault-requires-clause-code
first_fault-requires-clause-code c =
    let k = c.requires.known in
    let m = c.args.module.now in (
      k.1,
      code_is k.0 k.1 _ (plain_insts m) m.header.bound (ap (map plain_inst) c.as_slice-insts.ensures.value)
          c.requires.words c.before_functions-globals.ensures.before k.2 k.3 k.4,
    )

pub first_fault-requires-clause-most : goal.first_fault-requires-clause-most
first_fault-requires-clause-most c =
    let v = c.as_slice-insts.ensures.value in
    let xs = c.as_slice-insts.result.now in
    few_insts xs (rw v c.requires.words)

pub stop_at-requires : goal.stop_at-requires
stop_at-requires c =
    let k = c.requires.known in
    let m = c.args.module.now in
    let v = c.as_slice-insts.ensures.value in
    let xs = c.as_slice-insts.result.now in
    let h = rw c.in-Some.is at c.in_ok-found.ensures in
    let code = code_is k.0 k.1 _ (plain_insts m) m.header.bound (ap (map plain_inst) v) c.requires.words
    c.before_functions-globals.ensures.before k.2 k.3 k.4 in
    let first = h k.1 (sound_is k.0 k.1 _ (plain_insts m) (ap (map plain_inst) v) code k.5) in
    let there = broken_there k.1 (map plain_inst xs) c.in-Some.found.rule c.in-Some.found.inst first.broken in
    let n : length c.args.plan.now ≡ length (map plain_inst xs) = rw v k.2.count in
    omega (arith, there, n)

pub returns-in-Some-clause-refused : goal.returns-in-Some-clause-refused
returns-in-Some-clause-refused c = λ fork G p a b values.
    let m = c.args.module.now in
    let xs = c.as_slice-insts.result.now in
    let same : map plain_inst xs ≡ plain_insts m = ap (map plain_inst) c.as_slice-insts.ensures.value in
    let rule = c.in-Some.found.rule in
    let inst = c.in-Some.found.inst in
    let h = rw c.in-Some.is at c.in_ok-found.ensures in
    let code = code_is fork G _ (plain_insts m) m.header.bound same c.requires.words
    c.before_functions-globals.ensures.before p a b in
    let first = h G (sound_is fork G _ (plain_insts m) same code values) in
    told G (plain_insts m) rule inst c.stop_at.result
    (subst (λ (js : List PlainInst). IsFirst (Broken G js) of_standard rule inst) same first)
    (c.stop_at.ensures (plain_insts m) p.place)

pub returns-in-None-clause-unbroken : goal.returns-in-None-clause-unbroken
returns-in-None-clause-unbroken c = λ fork G p a b values.
    let m = c.args.module.now in
    let xs = c.as_slice-insts.result.now in
    let same : map plain_inst xs ≡ plain_insts m = ap (map plain_inst) c.as_slice-insts.ensures.value in
    let h = rw c.in-None.is at c.in_ok-found.ensures in
    let code = code_is fork G _ (plain_insts m) m.header.bound same c.requires.words
    c.before_functions-globals.ensures.before p a b in
    subst (λ (js : List PlainInst). IsUnbroken (Broken G js) of_standard) same
    (h G (sound_is fork G _ (plain_insts m) same code values))
