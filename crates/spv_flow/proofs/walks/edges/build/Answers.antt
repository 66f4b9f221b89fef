use Rattle.std.proofs.Common.{◌≡◌, ◌+◌, ◌-◌, ℕ, length, refl, subst, arith}
use Rattle.spv_graphs.specs.declared.graph.Graph.{Graph}
use Rattle.spv_graphs.specs.declared.graph.Block.{Block}
use Rattle.std.specs.Prelude.{slice_index}
use Rattle.spv_flow.specs.walks.inner.Leading.{AreInGraph}
use Rattle.spv_flow.proofs.lemmas.walks.Targets.{graph_more}
use Rattle.spv_flow.proofs.walks.edges.build.Goals as goal

pub loop-block-preserved : goal.loop-block-preserved
loop-block-preserved c =
    let starts = c.args.blocks.now.starts.now in
    let block = c.loop-block.block in
    let graph : Graph = record { blocks = c.push.new.self; targets = c.add_targets.new.targets } in
    let s : Block = record {
      first_target = c.len-first_target.result;
      end_target = c.len.result;
      first_value = slice_index starts block;
      end_value = slice_index starts (block + 1);
    } in
    let from : s.first_target ≡ length c.loop-block.graph.targets.items =
    (let o = c.loop-block.graph.targets.ok.0 in let e = c.len-first_target.ensures in omega (arith, o, e)) in
    let to : s.end_target ≡ length graph.targets.items =
    (let o = c.add_targets.new.targets.ok.0 in let e = c.len.ensures in omega (arith, o, e)) in
    graph_more c.args.code.now starts c.loop-block.graph graph block s c.requires.code c.loop-block.invariant
    c.in_ok-add_targets.ensures c.in_ok-push.ensures.items from to refl refl

pub returns : goal.returns
returns c =
    let starts = c.args.blocks.now.starts.now in
    let last = c.loop-block-test.false in
    let to = c.loop-block.auto.block-end in
    let e : c.loop-block.block ≡ length starts - 1 = omega (arith, last, to) in
    subst (λ (n : ℕ). AreInGraph c.args.code.now starts c.loop-block.graph n) e c.loop-block.invariant
