use Rattle.std.proofs.Common.{get_or}
use Rattle.spv_module.specs.Module.{plain_inst}
use Rattle.spv_flow.proofs.lemmas.branches.Labelled.{inst_get}
use Rattle.spv_flow.specs.walks.inner.Code.{insts_of}
use Rattle.spv_flow.proofs.lemmas.walks.Used.{none_found}
use Rattle.spv_flow.proofs.lemmas.walks.Asking.{no_use}
use Rattle.spv_flow_evidence.proofs.lemmas.walks.Asked.{by_uses, by_pairs}
use Rattle.spv_flow_evidence.proofs.walks.queries.query_at.Goals as goal

pub returns-in_err-id-in-Uses : goal.returns-in_err-id-in-Uses
returns-in_err-id-in-Uses c = λ G is.
    let code = c.args.code.now in
    let starts = c.args.blocks.now.starts.now in
    let i = plain_inst (get_or code.insts.now c.args.at c.index-code-at.result) in
    let there = inst_get code.insts.now c.args.at c.index-code-at.result c.requires.at in
    let none = none_found G (insts_of code) c.args.at c.args.n i there c.in_err-id-in-Uses.ensures in
    by_uses G (insts_of code) starts c.args.taking c.args.block c.args.at c.args.n c.from_residual.result c.in-Uses.is
    (rw c.from_residual.ensures (no_use G code starts c.args.block c.args.at c.args.n none))

pub use_query-requires-clause-id : goal.use_query-requires-clause-id
use_query-requires-clause-id c =
    let code = c.args.code.now in
    let i = plain_inst (get_or code.insts.now c.args.at c.index-code-at.result) in
    let there = inst_get code.insts.now c.args.at c.index-code-at.result c.requires.at in
    (i, there, c.in_ok-id-in-Uses.ensures)

pub returns-in_ok-id-in-Uses : goal.returns-in_ok-id-in-Uses
returns-in_ok-id-in-Uses c = λ G is.
    by_uses G (insts_of c.args.code.now) c.args.blocks.now.starts.now c.args.taking c.args.block c.args.at c.args.n
    c.use_query.result c.in-Uses.is
    (c.use_query.ensures G is)

pub returns-in-Pairs : goal.returns-in-Pairs
returns-in-Pairs c = λ G is.
    by_pairs G (insts_of c.args.code.now) c.args.blocks.now.starts.now c.args.taking c.args.block c.args.at c.args.n
    c.pair_query.result c.in-Pairs.is
    (c.pair_query.ensures G is)
