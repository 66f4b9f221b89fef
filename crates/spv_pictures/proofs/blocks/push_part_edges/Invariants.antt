use Rattle.std.proofs.Common.{◌≡◌, ◌++◌, drop, flat_map, string_bytes}
use Rattle.spv_pictures.specs.Blocks.{Row, edge_text, edges_of}
use Rattle.spv_pictures.specs.inner.Rows.{plain_rows}
use Rattle.spv_pictures.proofs.blocks.push_part_edges.Given as goal

abbrev pub invariant-loop-row : goal.invariant-loop-row
invariant-loop-row l =
    string_bytes l.out ++ flat_map (λ (r : Row). flat_map (edge_text l.marks.finding l.from) (edges_of r.inst))
    (plain_rows (drop l.row-index l.part))
    ≡ string_bytes l.fn.out ++ flat_map (λ (r : Row). flat_map (edge_text l.marks.finding l.from) (edges_of r.inst))
    (plain_rows l.part)
