use Rattle.std.proofs.Common.{◌≡◌, ◌++◌, ℕ, List, [], string_bytes, flat_map, drop}
use Rattle.spv_module.specs.Module.{plain_insts}
use Rattle.spv_lines.specs.Text.{ShownLines}
use Rattle.spv_fault_lines.specs.Lines.{type_line}
use Rattle.spv_fault_lines.proofs.lines.push_type_lines.Given as goal

abbrev pub invariant-loop-thing : goal.invariant-loop-thing
invariant-loop-thing l =
    (shown : List (List ℕ)) → ShownLines l.fn.about.table.now [] (plain_insts l.fn.about.«module».now) shown
    → string_bytes l.out ++ flat_map (type_line shown) (drop l.thing-index l.fn.things)
    ≡ string_bytes l.initial.out ++ flat_map (type_line shown) l.fn.things
