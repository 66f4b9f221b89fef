use Rattle.std.proofs.Common.{◌<◌, ◌∙◌, ℕ, List, length, sym, ap, subst, arith}
use Rattle.std.specs.Prelude.{All}
use Rattle.spv_evidence.specs.declared.evidence.Evidence.TheVariants.{Walk}
use Rattle.spv_flow.specs.walks.inner.Code.{insts_of}
use Rattle.spv_flow.proofs.lemmas.walks.Deciding.{graph_of, is_graph}
use Rattle.spv_flow_evidence.specs.walks.inner.Shown.{IsShown}
use Rattle.spv_flow_evidence.specs.walks.inner.Way.{labels_of}
use Rattle.spv_flow_evidence.proofs.lemmas.walks.Asked.{unavailable_block}
use Rattle.spv_flow_evidence.proofs.lemmas.walks.Showing.{shown, way_within}
use Rattle.spv_flow_evidence.proofs.walks.evidence_in.Goals as goal

pub way_past-requires-clause-graph : goal.way_past-requires-clause-graph
way_past-requires-clause-graph c =
    is_graph c.args.code.now c.args.blocks.now c.build.new.graph c.requires.most c.requires.blocks c.in_ok-build.ensures

pub way_past-requires-clause-block : goal.way_past-requires-clause-block
way_past-requires-clause-block c =
    let code = c.args.code.now in
    let b = c.args.blocks.now in
    let k = c.requires.code in
    let g = graph_of k.0 code b c.build.new.graph k.1 c.requires.blocks c.in_ok-build.ensures in
    unavailable_block k.0 (insts_of code) b.starts.now c.build.new.graph c.args.taking c.block_of-block.result
    c.args.inst
    c.in_ok-query.query g.count
    c.block_of-block.ensures.block (c.in_ok-query.ensures k.0 k.1)

pub way_past-requires-clause-unavailable : goal.way_past-requires-clause-unavailable
way_past-requires-clause-unavailable c = (let k = c.requires.code in (c.in_ok-query.ensures k.0 k.1).unavailable)

pub labels_on-requires : goal.labels_on-requires
labels_on-requires c =
    let code = c.args.code.now in
    let b = c.args.blocks.now in
    let k = c.requires.code in
    let g = graph_of k.0 code b c.build.new.graph k.1 c.requires.blocks c.in_ok-build.ensures in
    let count = g.count in
    let inside = c.block_of-block.ensures.block in
    let lt = unavailable_block k.0 (insts_of code) b.starts.now c.build.new.graph c.args.taking c.block_of-block.result
    c.args.inst c.in_ok-query.query g.count
    inside (c.in_ok-query.ensures k.0 k.1) in
    let n : ℕ = length b.starts.now in
    let all = way_within c.build.new.graph c.in_ok-query.query.value c.in_ok-query.query.block c.block_of-block.result n
    c.args.taking c.in_ok-to_asked.to_asked.items
    (omega (arith, count)) (omega (arith, lt, count)) (omega (arith, inside)) c.in_ok-to_asked.ensures in
    let e = c.as_slice.ensures.value ∙ c.in_ok-way.ensures in
    subst (λ (xs : List ℕ). All (λ (j : ℕ). j < n) xs) (sym e) all

pub returns : goal.returns
returns c = λ G is.
    let code = c.args.code.now in
    let b = c.args.blocks.now in
    let k = c.requires.code in
    let g = graph_of G code b c.build.new.graph is c.requires.blocks c.in_ok-build.ensures in
    let h = graph_of k.0 code b c.build.new.graph k.1 c.requires.blocks c.in_ok-build.ensures in
    let query = c.in_ok-query.query in
    let all = shown G k.0 code b.function b.starts.now c.build.new.graph c.args.taking c.block_of-block.result
    c.args.inst query c.in_ok-to_asked.to_asked.items is g h
    c.block_of-block.ensures k.2 (c.in_ok-query.ensures G is) c.in_ok-to_asked.ensures in
    let way = c.as_slice.ensures.value ∙ c.in_ok-way.ensures in
    let e = c.from_vec.ensures ∙ c.in_ok-walk.ensures ∙ ap (labels_of b.starts.now) way in
    subst (λ (xs : List ℕ). IsShown G (insts_of code) c.args.taking c.args.inst (Walk query.step query.value xs))
    (sym e) all
