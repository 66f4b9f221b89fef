use Rattle.std.proofs.Common.{◌≡◌, ℕ, [], Some, length, refl, sym, ap}
use Rattle.std.specs.Prelude.{slice_get, slice_range, option_map, unwrap_or}
use Rattle.std.proofs.lemmas.Option.{slice_get_read}
use Rattle.spv_graphs.specs.declared.graph.Graph.{Graph}
use Rattle.spv_graphs.specs.declared.graph.Block.{Block}
use Rattle.spv_graphs.specs.Graph.{targets_of}
use Rattle.spv_graphs.proofs.graph.Graph.targets.Goals as goal

targets_at : (graph : Graph) (b : ℕ) (s : Block) → slice_get graph.blocks.items b ≡ Some s → slice_range graph.targets.items s.first_target s.end_target ≡ targets_of graph b
unfolding targets_of
targets_at graph b s e = ap (λ o. unwrap_or (option_map (λ t. slice_range graph.targets.items t.first_target t.end_target) o) []) (sym e)

pub returns : goal.returns
returns c =
    let s = c.index-block.result.now in
    let at : slice_get c.args.self.now.blocks.items c.args.block ≡ Some s = slice_get_read c.args.self.now.blocks.items (length c.args.self.now.blocks.items) c.args.block s refl c.requires.block c.index-block.ensures in
    rw c.deref.ensures.value (targets_at c.args.self.now c.args.block s at)
