use Rattle.std.proofs.Common.{arith}
use Rattle.std.proofs.lemmas.Grind.{common_steps}
use Rattle.std.proofs.Common.{◌∙◌, ap, length}
use Rattle.std.proofs.lemmas.List.{length-map}
use Rattle.std.proofs.lemmas.Result.{IfOk-weaker}
use Rattle.spv_graphs.specs.inner.Edges.{defines}
use Rattle.spv_graphs.proofs.Edged.{edges_within, past_or_not}
use Rattle.spv_graphs.proofs.paths.path_past.Goals as goal

pub shortest_way-requires-clause-within : goal.shortest_way-requires-clause-within
shortest_way-requires-clause-within c =
    let graph = c.args.graph.now in
    let closed = c.as_slice.ensures.value ∙ c.in_ok-closed.ensures in
    let count = ap length closed ∙ length-map graph.blocks.items (defines c.args.value) in
    edges_within graph c.args.edges.now (length c.as_slice.result.now) c.requires.graph c.requires.edges count

pub returns : goal.returns
returns c =
    let graph = c.args.graph.now in
    let closed = c.as_slice.ensures.value ∙ c.in_ok-closed.ensures in
    IfOk-weaker c.shortest_way.result _ _
    (past_or_not graph c.args.value c.args.block c.args.edges.now c.as_slice.result.now c.requires.edges closed)
    c.shortest_way.ensures

pub shortest_way-requires-clause-starts : goal.shortest_way-requires-clause-starts
shortest_way-requires-clause-starts c = grind (arith, common_steps)

pub shortest_way-requires-clause-goal : goal.shortest_way-requires-clause-goal
shortest_way-requires-clause-goal c = grind (arith, common_steps)

pub shortest_way-requires-clause-few : goal.shortest_way-requires-clause-few
shortest_way-requires-clause-few c = grind (arith, common_steps)
