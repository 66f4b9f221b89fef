use Rattle.std.proofs.Common.{get_or}
use Rattle.spv_module.specs.Module.{plain_inst}
use Rattle.spv_flow.proofs.lemmas.branches.Labelled.{inst_get}
use Rattle.spv_flow.proofs.lemmas.walks.Asking.{not_paired, no_paired, paired}
use Rattle.spv_flow.proofs.walks.queries.paired_at.Goals as goal

pub returns-in_err-value-clause-paired : goal.returns-in_err-value-clause-paired
returns-in_err-value-clause-paired c = λ G is.
    let code = c.args.code.now in
    let i = plain_inst (get_or code.insts.now c.args.at c.index-code-at.result) in
    let there = inst_get code.insts.now c.args.at c.index-code-at.result c.requires.at in
    rw c.from_residual.ensures (no_paired G code c.args.at c.args.n i there
    (c.in_err-value.ensures G (is.plan.fits c.args.at i there)))

pub returns-in_ok-value-clause-paired : goal.returns-in_ok-value-clause-paired
returns-in_ok-value-clause-paired c = λ G is.
    let code = c.args.code.now in
    let i = plain_inst (get_or code.insts.now c.args.at c.index-code-at.result) in
    let there = inst_get code.insts.now c.args.at c.index-code-at.result c.requires.at in
    paired G code c.args.at c.args.n c.in_ok-value.field-0 c.args.place i there (c.requires.found G is)
    (c.in_ok-value.ensures G (is.plan.fits c.args.at i there)) (λ y at. c.if-is_local_in.ensures G y is at)

pub returns-else-is_local_in-clause-paired : goal.returns-else-is_local_in-clause-paired
returns-else-is_local_in-clause-paired c =
    λ G is. not_paired G c.args.code.now c.args.at c.args.n c.args.place (c.requires.found G is)
    (λ y at. c.if-is_local_in.ensures G y is at)
