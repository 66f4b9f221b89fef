use Rattle.std.proofs.Common.{get_or}
use Rattle.spv_module.specs.Module.{plain_inst}
use Rattle.spv_flow.proofs.lemmas.branches.Labelled.{inst_get}
use Rattle.spv_flow.specs.walks.inner.Code.{insts_of}
use Rattle.spv_flow.proofs.lemmas.walks.Used.{none_found, found_by}
use Rattle.spv_flow.proofs.walks.queries.defined_at.Goals as goal

pub returns-in_err-id-clause-used : goal.returns-in_err-id-clause-used
returns-in_err-id-clause-used c = λ G is.
    let code = c.args.code.now in
    let i = plain_inst (get_or code.insts.now c.args.at c.index-code-at.result) in
    let there = inst_get code.insts.now c.args.at c.index-code-at.result c.requires in
    rw c.from_residual.ensures (none_found G (insts_of code) c.args.at c.args.n i there c.in_err-id.ensures)

pub returns-clause-used : goal.returns-clause-used
returns-clause-used c = λ G is.
    let code = c.args.code.now in
    let i = plain_inst (get_or code.insts.now c.args.at c.index-code-at.result) in
    let there = inst_get code.insts.now c.args.at c.index-code-at.result c.requires in
    found_by G (insts_of code) c.args.at c.args.n c.in_ok-id.id i there c.in_ok-id.ensures c.definition.result
    (c.definition.ensures.there G is)
