use Rattle.std.proofs.Common.{ℕ, List, Option, sym, subst, arith}
use Rattle.std.proofs.lemmas.Result.{IfOk-weaker}
use Rattle.spv_table.specs.Table.{Table}
use Rattle.spv_graphs.specs.declared.queries.Query.{Query}
use Rattle.spv_graphs.specs.First.{AreOfBlocks, IsFirstUnavailable}
use Rattle.spv_flow.specs.walks.inner.Code.{insts_of, IsCode}
use Rattle.spv_flow.specs.walks.inner.Unavailable.{IsFirstIn}
use Rattle.spv_flow.proofs.lemmas.walks.Deciding.{graph_of, is_graph, of_blocks, all_by, first_by, none_by, none_asked}
use Rattle.spv_flow.proofs.lemmas.walks.Deciding.{is_none}
use Rattle.spv_flow.proofs.walks.function.first_in_blocks.Goals as goal

pub least_unavailable-requires-clause-graph : goal.least_unavailable-requires-clause-graph
least_unavailable-requires-clause-graph c =
    is_graph c.args.code.now c.args.blocks.now c.build.new.graph c.requires.most c.requires.blocks c.in_ok-build.ensures

pub least_unavailable-requires-clause-queries : goal.least_unavailable-requires-clause-queries
least_unavailable-requires-clause-queries c =
    let code = c.args.code.now in
    let b = c.args.blocks.now in
    let k = c.requires.code in
    let g = graph_of k.0 code b c.build.new.graph k.1 c.requires.blocks c.in_ok-build.ensures in
    let all = all_by k.0 code b.starts.now c.clear.new.self.items c.add_all.new.queries.items k.1 c.clear.ensures.items
    c.in_ok-add_all.ensures in
    let of : AreOfBlocks c.build.new.graph c.add_all.new.queries.items = of_blocks k.0
    (insts_of code) b.function b.starts.now c.build.new.graph c.add_all.new.queries.items g all.sound in
    subst (λ (xs : List Query). AreOfBlocks c.build.new.graph xs) (sym c.as_slice.ensures.value) of

pub returns-then-not-has_phis : goal.returns-then-not-has_phis
returns-then-not-has_phis c =
    let code = c.args.code.now in
    let b = c.args.blocks.now in
    let laid = c.requires.blocks.laid in
    let still = is_none c.add_all.new.queries.items c.add_all.new.queries.len c.is_empty.result
    (let o = c.add_all.new.queries.ok.0 in omega (arith, o)) c.is_empty.ensures c.if-is_empty.true in
    λ G is.
    none_by G code b.function b.starts.now laid.divided
    (none_asked G code b.starts.now c.clear.new.self.items c.add_all.new.queries.items is c.clear.ensures.items
    still c.in_ok-add_all.ensures)
    (λ n of op. let x = laid.extent.all n of in c.requires.phis c.if-not-has_phis.true n x.0 x.1 op)

pub returns : goal.returns
returns c =
    let code = c.args.code.now in
    let b = c.args.blocks.now in
    let graph = c.build.new.graph in
    let queries = c.add_all.new.queries.items in
    IfOk-weaker c.least_unavailable.result (IsFirstUnavailable graph c.as_slice.result.now)
    (λ (o : Option ℕ). (G : Table) → IsCode G code → IsFirstIn G (insts_of code) b.function o)
    (λ o h G is.
    let g = graph_of G code b graph is c.requires.blocks c.in_ok-build.ensures in
    let all = all_by G code b.starts.now c.clear.new.self.items queries is c.clear.ensures.items c.in_ok-add_all.ensures
    in
    first_by G code b.function b.starts.now graph queries is g all o
    (subst (λ (xs : List Query). IsFirstUnavailable graph xs o) c.as_slice.ensures.value h))
    c.least_unavailable.ensures
