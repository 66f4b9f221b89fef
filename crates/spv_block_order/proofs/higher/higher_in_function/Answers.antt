use Rattle.std.proofs.Common.{◌≡◌, ◌∙◌, ℕ, List, length, sym, ap, subst, arith}
use Rattle.std.proofs.lemmas.List.{length-map}
use Rattle.spv_module.specs.Module.{plain_inst}
use Rattle.spv_flow.specs.walks.inner.Code.{insts_of}
use Rattle.spv_flow.specs.walks.inner.Starts.{IsLaid}
use Rattle.spv_flow.proofs.lemmas.walks.Lists.{taken}
use Rattle.spv_block_order.proofs.higher.higher_in_function.Goals as goal

pub higher_in_blocks-requires-clause-blocks : goal.higher_in_blocks-requires-clause-blocks
higher_in_blocks-requires-clause-blocks c =
    let code = c.args.code.now in
    let numbered : c.as_slice-2.result.now ≡ c.divide.new.numbers = c.as_slice-2.ensures.value
    ∙ taken c.divide.new.numbers _ _ (let l = c.divide.auto.numbers in let m = c.deref_mut.ensures.len in
    omega (arith, l, m)) in
    let laid : IsLaid (insts_of code) c.args.function c.args.end c.as_slice.result.now c.as_slice-2.result.now =
    subst (λ (xs : List ℕ). IsLaid (insts_of code) c.args.function c.args.end xs c.as_slice-2.result.now)
    (sym c.as_slice.ensures.value)
    (subst (λ (xs : List ℕ). IsLaid (insts_of code) c.args.function c.args.end c.divide.new.starts.items xs)
    (sym numbered) c.in_ok-divide.ensures) in
    record {
      laid = laid;
      count = (
          let l = c.divide.auto.numbers in
          let m = ap length numbered in
          let k = ap length c.deref_mut.ensures.value in
          let n = c.requires.count in
          let o = length-map code.insts.now plain_inst in
          omega (arith, l, m, k, n, o));
    }
