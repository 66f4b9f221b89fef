use Rattle.std.proofs.Common.{◌≡◌, length, map, ap, arith}
use Rattle.std.proofs.lemmas.List.{length-map}
use Rattle.spv_module.specs.Module.{plain_inst, plain_insts}
use Rattle.spv_flow.proofs.lemmas.branches.Firsts.{few_insts}
use Rattle.spv_block_order.proofs.Coding.{code_is}
use Rattle.spv_standard_evidence.proofs.Ordered.{block_of, block_shown, use_of, use_shown, use_within}
use Rattle.spv_standard_evidence.proofs.order.order_evidence.Goals as goal

pub before_functions-globals-requires : goal.before_functions-globals-requires
before_functions-globals-requires c =
    let v = c.as_slice-insts.ensures.value in
    let xs = c.as_slice-insts.result.now in
    let few = few_insts xs (rw v c.requires.words) in
    let n : length c.args.plan.now ≡ length (map plain_inst xs) = rw v c.requires.known.2.count in
    let l = length-map xs plain_inst in
    omega (arith, few, n, l)

pub higher_early_block-requires-clause-most : goal.higher_early_block-requires-clause-most
higher_early_block-requires-clause-most c =
    let v = c.as_slice-insts.ensures.value in
    let xs = c.as_slice-insts.result.now in
    few_insts xs (rw v c.requires.words)

pub higher_early_block-requires-clause-broken : goal.higher_early_block-requires-clause-broken
higher_early_block-requires-clause-broken c =
    let k = c.requires.known in
    let m = c.args.module.now in
    let xs = c.as_slice-insts.result.now in
    let same : map plain_inst xs ≡ plain_insts m = ap (map plain_inst) c.as_slice-insts.ensures.value in (
      k.1,
      code_is k.0 k.1 _ (plain_insts m) m.header.bound same c.requires.words
          c.before_functions-globals.ensures.before k.2 k.3 k.4,
      block_of k.1 (map plain_inst xs) (plain_insts m) c.args.inst c.args.rule same c.in-O1.is k.5,
    )

pub early_operand-operand-requires-clause-at : goal.early_operand-operand-requires-clause-at
early_operand-operand-requires-clause-at c =
    let k = c.requires.known in
    let m = c.args.module.now in
    let xs = c.as_slice-insts.result.now in
    let same : map plain_inst xs ≡ plain_insts m = ap (map plain_inst) c.as_slice-insts.ensures.value in
    let u = use_of k.1 (map plain_inst xs) (plain_insts m) c.args.inst c.args.rule same c.in_default.not-O1 k.5 in
    let w = use_within k.1 (map plain_inst xs) c.args.inst u.1 in
    let l = length-map xs plain_inst in
    omega (arith, w, l)

pub early_operand-operand-requires-clause-broken : goal.early_operand-operand-requires-clause-broken
early_operand-operand-requires-clause-broken c =
    let k = c.requires.known in
    let m = c.args.module.now in
    let xs = c.as_slice-insts.result.now in
    let same : map plain_inst xs ≡ plain_insts m = ap (map plain_inst) c.as_slice-insts.ensures.value in
    let u = use_of k.1 (map plain_inst xs) (plain_insts m) c.args.inst c.args.rule same c.in_default.not-O1 k.5 in (
      k.1,
      code_is k.0 k.1 _ (plain_insts m) m.header.bound same c.requires.words
          c.before_functions-globals.ensures.before k.2 k.3 k.4,
      u.1,
    )

pub returns-in_ok-higher_early_block-in-O1 : goal.returns-in_ok-higher_early_block-in-O1
returns-in_ok-higher_early_block-in-O1 c = λ fork G p a b.
    let m = c.args.module.now in
    let xs = c.as_slice-insts.result.now in
    let same : map plain_inst xs ≡ plain_insts m = ap (map plain_inst) c.as_slice-insts.ensures.value in
    block_shown G (map plain_inst xs) (plain_insts m) c.args.inst _ c.args.rule same c.in-O1.is
    (c.in_ok-higher_early_block-in-O1.ensures G (code_is fork G _ (plain_insts m) m.header.bound same
    c.requires.words c.before_functions-globals.ensures.before p a b))

pub returns-in_default : goal.returns-in_default
returns-in_default c = λ fork G p a b.
    let k = c.requires.known in
    let m = c.args.module.now in
    let xs = c.as_slice-insts.result.now in
    let same : map plain_inst xs ≡ plain_insts m = ap (map plain_inst) c.as_slice-insts.ensures.value in
    let u = use_of k.1 (map plain_inst xs) (plain_insts m) c.args.inst c.args.rule same c.in_default.not-O1 k.5 in
    use_shown G (map plain_inst xs) (plain_insts m) c.args.inst _ _ c.args.rule same u.0
    (c.early_operand-operand.ensures G (code_is fork G _ (plain_insts m) m.header.bound same c.requires.words
    c.before_functions-globals.ensures.before p a b))
