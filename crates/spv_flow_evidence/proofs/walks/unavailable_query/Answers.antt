use Rattle.std.proofs.Common.{ℕ, Some, None}
use Rattle.spv_graphs.specs.First.{IsFirstUnavailable}
use Rattle.spv_flow.specs.walks.inner.Code.{insts_of}
use Rattle.spv_flow.proofs.lemmas.walks.Deciding.{graph_of, is_graph}
use Rattle.spv_flow_evidence.proofs.lemmas.walks.Asked.{asked_in, steps_in, asked_blocks, some_unavailable}
use Rattle.spv_flow_evidence.proofs.lemmas.walks.Asked.{unavailable_step, operand_asked, query_unavailable}
use Rattle.spv_flow_evidence.proofs.walks.unavailable_query.Goals as goal

pub least_unavailable-requires-clause-graph : goal.least_unavailable-requires-clause-graph
least_unavailable-requires-clause-graph c =
    let most = c.requires.code.1.most in
    is_graph c.args.code.now c.args.blocks.now c.args.graph.now most c.requires.blocks c.requires.graph

pub least_unavailable-requires-clause-queries : goal.least_unavailable-requires-clause-queries
least_unavailable-requires-clause-queries c =
    let is = insts_of c.args.code.now in
    let starts = c.args.blocks.now.starts.now in
    let t = c.args.taking in
    let b = c.args.block in
    let n = c.args.inst in
    let xs = c.as_slice.result.now in
    let k = c.requires.code in
    let graph = c.args.graph.now in
    let g = graph_of k.0 c.args.code.now c.args.blocks.now graph k.1 c.requires.blocks c.requires.graph in
    let asked = c.in_ok-queries.ensures.asked k.0 0 k.1 in
    let all = asked_in k.0 is starts t b n 0 c.in_ok-queries.queries.items xs c.as_slice.ensures.value asked in
    asked_blocks k.0 is starts graph t b n 0 xs g.count c.requires.inside.block all

pub unreachable-requires : goal.unreachable-requires
unreachable-requires c =
    let code = c.args.code.now in
    let blocks = c.args.blocks.now in
    let starts = blocks.starts.now in
    let t = c.args.taking in
    let b = c.args.block in
    let n = c.args.inst in
    let xs = c.as_slice.result.now in
    let k = c.requires.code in
    let graph = c.args.graph.now in
    let g = graph_of k.0 code blocks graph k.1 c.requires.blocks c.requires.graph in
    let first : IsFirstUnavailable graph xs None = rw c.in_default.is at c.in_ok-operand.ensures in
    some_unavailable k.0 code blocks.function starts graph t b n xs k.1 g c.requires.inside
    (λ (end : ℕ).
    let asked = c.in_ok-queries.ensures.asked k.0 end k.1 in
    asked_in k.0 (insts_of code) starts t b n end c.in_ok-queries.queries.items xs c.as_slice.ensures.value asked)
    k.2 first

pub query_at-requires-clause-n : goal.query_at-requires-clause-n
query_at-requires-clause-n c =
    let xs = c.as_slice.result.now in
    let i = c.in-Some.operand in
    let first : IsFirstUnavailable c.args.graph.now xs (Some i) = rw c.in-Some.is at c.in_ok-operand.ensures in
    let below = steps_in c.in_ok-queries.queries.items xs c.as_slice.ensures.value c.in_ok-queries.ensures.steps in
    unavailable_step c.args.graph.now xs i below first

pub unreachable-requires-in_default-query_at : goal.unreachable-requires-in_default-query_at
unreachable-requires-in_default-query_at c =
    let is = insts_of c.args.code.now in
    let starts = c.args.blocks.now.starts.now in
    let t = c.args.taking in
    let b = c.args.block in
    let n = c.args.inst in
    let xs = c.as_slice.result.now in
    let i = c.in-Some.operand in
    let k = c.requires.code in
    let first : IsFirstUnavailable c.args.graph.now xs (Some i) = rw c.in-Some.is at c.in_ok-operand.ensures in
    let asked = c.in_ok-queries.ensures.asked k.0 0 k.1 in
    let all = asked_in k.0 is starts t b n 0 c.in_ok-queries.queries.items xs c.as_slice.ensures.value asked in
    operand_asked k.0 is starts c.args.graph.now t b n 0 i xs all first (c.in_default-query_at.ensures k.0 k.1)

pub returns : goal.returns
returns c = λ G is.
    let code = c.args.code.now in
    let blocks = c.args.blocks.now in
    let starts = blocks.starts.now in
    let t = c.args.taking in
    let b = c.args.block in
    let n = c.args.inst in
    let xs = c.as_slice.result.now in
    let i = c.in-Some.operand in
    let first : IsFirstUnavailable c.args.graph.now xs (Some i) = rw c.in-Some.is at c.in_ok-operand.ensures in
    let asked = c.in_ok-queries.ensures.asked G 0 is in
    let all = asked_in G (insts_of code) starts t b n 0 c.in_ok-queries.queries.items xs c.as_slice.ensures.value asked
    in
    let here = c.in-Some-query_at.ensures G is in
    query_unavailable G code blocks c.args.graph.now t b n 0 i xs c.in-Some-query_at.query is c.requires.blocks all
    first here
