use Rattle.std.proofs.Common.{inl, inr, arith}
use Rattle.spv_flow.proofs.lemmas.walks.Asking.{none_paired, not_paired, no_pair_value, no_pair_label, no_pair_need}
use Rattle.spv_flow.proofs.lemmas.walks.Asking.{pair_asked}
use Rattle.spv_flow.proofs.walks.queries.pair_query.Goals as goal

pub returns-in_err-block : goal.returns-in_err-block
returns-in_err-block c = λ G is.
    let code = c.args.code.now in
    rw c.from_residual.ensures (no_pair_label G code c.args.blocks.now.starts.now c.args.at c.args.n
    (c.in_err-block.ensures G is))

pub returns-in_err-place : goal.returns-in_err-place
returns-in_err-place c = λ G is.
    let code = c.args.code.now in
    rw c.from_residual-in_err-place.ensures
    (no_pair_value G code c.args.blocks.now.starts.now c.args.at c.args.n
    (none_paired G code c.args.at c.args.n (c.in_err-place.ensures.used G is)))

pub returns-then-is_global : goal.returns-then-is_global
returns-then-is_global c = λ G is.
    let code = c.args.code.now in
    no_pair_value G code c.args.blocks.now.starts.now c.args.at c.args.n
    (not_paired G code c.args.at c.args.n c.in_ok-place.place (c.in_ok-place.ensures.used G is)
    (λ y at. c.is_global.ensures G y is at c.if-is_global.true))

pub bounds-blocks-block : goal.bounds-blocks-block
bounds-blocks-block c =
    let k = c.requires.code in
    let h = (c.in_ok-block.ensures k.0 k.1).inside in
    omega (arith, h)

pub bounds-blocks-block-2 : goal.bounds-blocks-block-2
bounds-blocks-block-2 c =
    let k = c.requires.code in
    let h = (c.in_ok-block.ensures k.0 k.1).inside in
    omega (arith, h)

pub returns-then-place-to : goal.returns-then-place-to
returns-then-place-to c = λ G is.
    let code = c.args.code.now in
    no_pair_need G code c.args.blocks.now c.args.at c.args.n c.in_ok-place.place c.in_ok-block.block is
    c.requires.blocks (c.in_ok-place.ensures.used G is)
    (c.in_ok-block.ensures G is) c.if-from-place.true c.if-place-to.true

pub returns-in_err-value : goal.returns-in_err-value
returns-in_err-value c = λ G is.
    let code = c.args.code.now in
    rw c.from_residual-in_err-value.ensures
    (no_pair_value G code c.args.blocks.now.starts.now c.args.at c.args.n (c.in_err-value.ensures.paired G is))

pub returns : goal.returns
returns c = λ G is.
    let code = c.args.code.now in
    pair_asked G code c.args.blocks.now c.args.at c.args.n c.in_ok-value.value c.in_ok-block.block
    (c.in_ok-value.ensures.paired G is)
    (c.in_ok-block.ensures G is)
    (λ h. let e = c.in_ok-value.ensures.same in elim c.else-from-place.either [
      | inl late ↦ (let k = late.1 in let l = h.1 in omega (arith, k, l, e))
      | inr early ↦ (let k = h.0 in omega (arith, early, k, e))
    ])
