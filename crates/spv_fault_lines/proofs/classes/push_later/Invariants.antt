use Rattle.std.proofs.Common.{◌≡◌, ◌++◌, string_bytes, flat_map, drop}
use Rattle.spv_fault_lines.specs.Classes.{class_part}
use Rattle.spv_fault_lines.proofs.classes.push_later.Given as goal

abbrev pub invariant-loop-class : goal.invariant-loop-class
invariant-loop-class l =
    string_bytes l.out ++ flat_map class_part (drop l.class-index l.fn.classes) ≡ string_bytes l.initial.out
    ++ flat_map class_part l.fn.classes
