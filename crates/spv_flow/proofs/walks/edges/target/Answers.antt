use Rattle.std.proofs.Common.{get_or, arith}
use Rattle.std.proofs.lemmas.Grind.{common_steps}
use Rattle.spv_module.specs.Module.{plain_inst}
use Rattle.spv_flow.proofs.lemmas.branches.Labelled.{inst_get}
use Rattle.spv_flow.specs.walks.inner.Code.{insts_of}
use Rattle.spv_flow.proofs.lemmas.walks.Asking.{no_label, no_place, target_by}
use Rattle.spv_flow.proofs.walks.edges.target.Goals as goal

pub returns-in_err-id : goal.returns-in_err-id
returns-in_err-id c = λ G is.
    let code = c.args.code.now in
    let i = plain_inst (get_or code.insts.now c.args.at c.index-code-at.result) in
    let there = inst_get code.insts.now c.args.at c.index-code-at.result c.requires.at in
    rw c.from_residual.ensures (no_label G code c.args.blocks.now.starts.now c.args.at c.args.n i is there
    (c.in_err-id.ensures G (is.plan.fits c.args.at i there)))

pub returns-in_err-place : goal.returns-in_err-place
returns-in_err-place c = λ G is.
    let code = c.args.code.now in
    let i = plain_inst (get_or code.insts.now c.args.at c.index-code-at.result) in
    let there = inst_get code.insts.now c.args.at c.index-code-at.result c.requires.at in
    rw c.from_residual-in_err-place.ensures
    (no_place G code c.args.blocks.now.starts.now c.args.at c.args.n c.in_ok-id.id i is there
    (c.in_ok-id.ensures G (is.plan.fits c.args.at i there)) (c.in_err-place.ensures.label G is))

pub returns : goal.returns
returns c = λ G is.
    let code = c.args.code.now in
    let i = plain_inst (get_or code.insts.now c.args.at c.index-code-at.result) in
    let there = inst_get code.insts.now c.args.at c.index-code-at.result c.requires.at in
    let label = c.in_ok-place.ensures.label G is in
    target_by G code c.args.blocks.now c.args.at c.args.n c.in_ok-id.id c.in_ok-place.place i is c.requires.blocks there
    (c.in_ok-id.ensures G (is.plan.fits c.args.at i there)) label c.at_label.result
    (c.at_label.ensures (insts_of code) c.requires.blocks label.label)

pub at_label-requires : goal.at_label-requires
at_label-requires c = grind (arith, common_steps)
