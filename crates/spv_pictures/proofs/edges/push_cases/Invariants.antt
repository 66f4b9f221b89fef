use Rattle.std.proofs.Common.{◌≡◌, ◌++◌, flat_map, length, string_bytes}
use Rattle.spv_module.specs.Module.{plain_operands}
use Rattle.spv_pictures.specs.Blocks.{case_edges, edge_text}
use Rattle.spv_pictures.proofs.edges.push_cases.Given as goal

abbrev pub invariant-loop-number : goal.invariant-loop-number
invariant-loop-number l =
    string_bytes l.out ++ flat_map (edge_text l.marks.finding l.from)
    (case_edges (plain_operands l.rest)) ≡ string_bytes l.fn.out
    ++ flat_map (edge_text l.marks.finding l.from) (case_edges (plain_operands l.operands))

abbrev pub decreases-loop-number : goal.decreases-loop-number
decreases-loop-number l = length l.rest
