use Rattle.std.proofs.Common.{◌≡◌, ◌<◌, ◌-◌, ℕ, length, sym, subst, arith}
use Rattle.std.specs.Prelude.{slice_index}
use Rattle.spv_graph_order.specs.Order.{IsEarly, IsHigher}
use Rattle.spv_flow.specs.walks.inner.Code.{insts_of}
use Rattle.spv_flow.proofs.lemmas.walks.Deciding.{graph_of, is_graph}
use Rattle.spv_block_order.proofs.Bridging.{early_at_within, higher_by, walk_early}
use Rattle.spv_block_order.proofs.higher.higher_in_blocks.Goals as goal

pub bounds-blocks-at : goal.bounds-blocks-at
bounds-blocks-at c =
    let b = c.args.blocks.now in
    let k = c.requires.broken in
    let within = early_at_within k.0 (insts_of c.args.code.now) b.function c.args.at k.2 in
    let count = c.requires.blocks.count in
    omega (arith, within, count)

pub higher_block-requires-clause-graph : goal.higher_block-requires-clause-graph
higher_block-requires-clause-graph c =
    is_graph c.args.code.now c.args.blocks.now c.build.new.graph c.requires.most c.requires.blocks c.in_ok-build.ensures

pub higher_block-requires-clause-block : goal.higher_block-requires-clause-block
higher_block-requires-clause-block c =
    let code = c.args.code.now in
    let b = c.args.blocks.now in
    let graph = c.build.new.graph in
    let k = c.requires.broken in
    let g = graph_of k.0 code b graph k.1 c.requires.blocks c.in_ok-build.ensures in
    let r = walk_early k.0 (insts_of code) b.function b.starts.now graph g c.args.at k.2 in
    let within = r.within in
    let few : r.block < length b.starts.now - 1 = omega (arith, within) in
    let same : slice_index b.numbers.now c.args.at ≡ r.block =
    subst (λ (n : ℕ). slice_index b.numbers.now n ≡ r.block) r.first (c.requires.blocks.laid.numbered r.block few) in
    let count = g.count in
    omega (arith, within, same, count)

pub higher_block-requires-clause-early : goal.higher_block-requires-clause-early
higher_block-requires-clause-early c =
    let code = c.args.code.now in
    let b = c.args.blocks.now in
    let graph = c.build.new.graph in
    let k = c.requires.broken in
    let g = graph_of k.0 code b graph k.1 c.requires.blocks c.in_ok-build.ensures in
    let r = walk_early k.0 (insts_of code) b.function b.starts.now graph g c.args.at k.2 in
    let within = r.within in
    let few : r.block < length b.starts.now - 1 = omega (arith, within) in
    let same : slice_index b.numbers.now c.args.at ≡ r.block =
    subst (λ (n : ℕ). slice_index b.numbers.now n ≡ r.block) r.first (c.requires.blocks.laid.numbered r.block few) in
    subst (λ (n : ℕ). IsEarly graph n) (sym same) r.early

pub bounds-blocks-higher : goal.bounds-blocks-higher
bounds-blocks-higher c =
    let code = c.args.code.now in
    let b = c.args.blocks.now in
    let graph = c.build.new.graph in
    let k = c.requires.broken in
    let g = graph_of k.0 code b graph k.1 c.requires.blocks c.in_ok-build.ensures in
    let count = g.count in
    let within = c.in_ok-higher.ensures.within in
    omega (arith, within, count)

pub returns : goal.returns
returns c =
    let code = c.args.code.now in
    let b = c.args.blocks.now in
    let graph = c.build.new.graph in
    let k = c.requires.broken in
    let g = graph_of k.0 code b graph k.1 c.requires.blocks c.in_ok-build.ensures in
    let r = walk_early k.0 (insts_of code) b.function b.starts.now graph g c.args.at k.2 in
    let within = r.within in
    let few : r.block < length b.starts.now - 1 = omega (arith, within) in
    let same : slice_index b.numbers.now c.args.at ≡ r.block =
    subst (λ (n : ℕ). slice_index b.numbers.now n ≡ r.block) r.first (c.requires.blocks.laid.numbered r.block few) in
    let high = subst (λ (n : ℕ). IsHigher graph n c.in_ok-higher.higher) same c.in_ok-higher.ensures in
    let ok = is_graph code b graph c.requires.most c.requires.blocks c.in_ok-build.ensures in
    λ G is.
    higher_by G (insts_of code) b.function b.starts.now graph
    (graph_of G code b graph is c.requires.blocks c.in_ok-build.ensures) ok r.block c.args.at c.in_ok-higher.higher
    r.first r.early high
