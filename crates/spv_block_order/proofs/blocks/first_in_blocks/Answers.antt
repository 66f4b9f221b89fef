use Rattle.std.proofs.Common.{Some, None}
use Rattle.spv_flow.specs.walks.inner.Code.{insts_of}
use Rattle.spv_flow.proofs.lemmas.walks.Deciding.{graph_of, is_graph}
use Rattle.spv_block_order.proofs.Bridging.{early_within, first_by}
use Rattle.spv_block_order.proofs.blocks.first_in_blocks.Goals as goal

pub first_early-requires : goal.first_early-requires
first_early-requires c =
    is_graph c.args.code.now c.args.blocks.now c.build.new.graph c.requires.most c.requires.blocks c.in_ok-build.ensures

pub bounds-blocks-block : goal.bounds-blocks-block
bounds-blocks-block c =
    let code = c.args.code.now in
    let b = c.args.blocks.now in
    let graph = c.build.new.graph in
    let k = c.requires.code in
    let first = rw c.in-Some.is at c.in_ok-block.ensures in
    early_within k.0 (insts_of code) b.function b.starts.now graph
    (graph_of k.0 code b graph k.1 c.requires.blocks c.in_ok-build.ensures)
    (is_graph code b graph c.requires.most c.requires.blocks c.in_ok-build.ensures) c.in-Some.block first.0

pub returns-in-Some : goal.returns-in-Some
returns-in-Some c =
    let code = c.args.code.now in
    let b = c.args.blocks.now in
    let graph = c.build.new.graph in
    let first = rw c.in-Some.is at c.in_ok-block.ensures in
    λ G is.
    first_by G (insts_of code) b.function b.starts.now graph
    (graph_of G code b graph is c.requires.blocks c.in_ok-build.ensures)
    (is_graph code b graph c.requires.most c.requires.blocks c.in_ok-build.ensures) (Some c.in-Some.block) first

pub returns-in-None : goal.returns-in-None
returns-in-None c =
    let code = c.args.code.now in
    let b = c.args.blocks.now in
    let graph = c.build.new.graph in
    let first = rw c.in-None.is at c.in_ok-block.ensures in
    λ G is.
    first_by G (insts_of code) b.function b.starts.now graph
    (graph_of G code b graph is c.requires.blocks c.in_ok-build.ensures)
    (is_graph code b graph c.requires.most c.requires.blocks c.in_ok-build.ensures) None first
