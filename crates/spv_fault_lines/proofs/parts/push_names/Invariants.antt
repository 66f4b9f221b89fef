use Rattle.std.proofs.Common.{◌≡◌, ◌++◌, string_bytes, flat_map, drop}
use Rattle.spv_fault_lines.specs.Lines.{name_part}
use Rattle.spv_fault_lines.proofs.parts.push_names.Given as goal

abbrev pub invariant-loop-place : goal.invariant-loop-place
invariant-loop-place l =
    string_bytes l.out ++ flat_map name_part (drop l.place l.fn.names) ≡ string_bytes l.initial.out
    ++ flat_map name_part l.fn.names
