use Rattle.std.proofs.Common.{inl, inr, None, Some, get_or, arith}
use Rattle.spv_module.specs.Module.{plain_inst}
use Rattle.spv_flow.proofs.lemmas.branches.Labelled.{inst_get}
use Rattle.spv_flow.specs.walks.inner.Code.{insts_of}
use Rattle.spv_flow.proofs.lemmas.walks.Asking.{no_use, no_value, no_need, no_role, use_asked}
use Rattle.spv_flow.proofs.lemmas.walks.Used.{found_by}
use Rattle.spv_flow.proofs.walks.queries.use_query.Goals as goal

pub returns-in_err-value : goal.returns-in_err-value
returns-in_err-value c = λ G is.
    let code = c.args.code.now in
    let k = c.requires.id in
    let found = found_by G (insts_of code) c.args.at c.args.n c.args.id k.0 k.1 k.2 None
    (c.in_err-value.ensures.there G is) in
    rw c.from_residual.ensures (no_use G code c.args.blocks.now.starts.now c.args.block c.args.at c.args.n found)

pub returns-then-is_global : goal.returns-then-is_global
returns-then-is_global c = λ G is.
    let code = c.args.code.now in
    let k = c.requires.id in
    let found = found_by G (insts_of code) c.args.at c.args.n c.args.id k.0 k.1 k.2 (Some c.in_ok-value.value)
    (c.in_ok-value.ensures.there G is) in
    no_value G code c.args.blocks.now.starts.now c.args.block c.args.at c.args.n c.in_ok-value.value found
    (λ y at. c.is_global.ensures G y is at c.if-is_global.true)

pub returns-then-value-at : goal.returns-then-value-at
returns-then-value-at c = λ G is.
    let code = c.args.code.now in
    let k = c.requires.id in
    let found = found_by G (insts_of code) c.args.at c.args.n c.args.id k.0 k.1 k.2 (Some c.in_ok-value.value)
    (c.in_ok-value.ensures.there G is) in
    no_need G code c.args.blocks.now.starts.now c.args.block c.args.at c.args.n c.in_ok-value.value is found
    c.if-start-value.true c.if-value-at.true

pub returns-in_err-used : goal.returns-in_err-used
returns-in_err-used c = λ G is.
    let code = c.args.code.now in
    let i = plain_inst (get_or code.insts.now c.args.at c.index-code-at.result) in
    let there = inst_get code.insts.now c.args.at c.index-code-at.result c.requires.at in
    rw c.from_residual-in_err-used.ensures
    (no_role G code c.args.blocks.now.starts.now c.args.block c.args.at c.args.n i there
    (c.in_err-used.ensures G (is.plan.fits c.args.at i there)))

pub returns-in_ok-used : goal.returns-in_ok-used
returns-in_ok-used c = λ G is.
    let code = c.args.code.now in
    let k = c.requires.id in
    let found = found_by G (insts_of code) c.args.at c.args.n c.args.id k.0 k.1 k.2 (Some c.in_ok-value.value)
    (c.in_ok-value.ensures.there G is) in
    let i = plain_inst (get_or code.insts.now c.args.at c.index-code-at.result) in
    let there = inst_get code.insts.now c.args.at c.index-code-at.result c.requires.at in
    use_asked G code c.args.blocks.now.starts.now c.args.block c.args.at c.args.n c.in_ok-used.field-0
    c.in_ok-value.value i there found (c.in_ok-used.ensures G (is.plan.fits c.args.at i there))
    (λ y at. c.if-is_local_in.ensures G y is at)
    (λ h. elim c.else-start-value.either [
      | inl late ↦ (let k = late.1 in let l = h.1 in omega (arith, k, l))
      | inr early ↦ (let k = h.0 in omega (arith, early, k))
    ])

pub returns-else-is_local_in : goal.returns-else-is_local_in
returns-else-is_local_in c = λ G is.
    let code = c.args.code.now in
    let k = c.requires.id in
    let found = found_by G (insts_of code) c.args.at c.args.n c.args.id k.0 k.1 k.2 (Some c.in_ok-value.value)
    (c.in_ok-value.ensures.there G is) in
    no_value G code c.args.blocks.now.starts.now c.args.block c.args.at c.args.n c.in_ok-value.value found
    (λ y at. c.if-is_local_in.ensures G y is at)
