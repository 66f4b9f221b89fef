use Rattle.std.proofs.Common.{◌≡◌, ◌++◌, ℕ, List, [], Option, string_bytes, flat_map, drop}
use Rattle.spv_module.specs.Module.{plain_insts}
use Rattle.spv_lines.specs.Text.{ShownLines}
use Rattle.spv_facts.specs.inner.Owned.{AreOwners}
use Rattle.spv_fault_lines.specs.Lines.{read_line}
use Rattle.spv_fault_lines.proofs.lines.push_each_read_line.Given as goal

abbrev pub invariant-loop-thing : goal.invariant-loop-thing
invariant-loop-thing l =
    (operands : List (Option ℕ)) (shown : List (List ℕ)) → AreOwners l.fn.owners operands
    → ShownLines l.fn.about.table.now [] (plain_insts l.fn.about.«module».now) shown
    → string_bytes l.out ++ flat_map (read_line l.fn.about.table.now
    (plain_insts l.fn.about.«module».now) shown l.fn.inst operands) (drop l.thing-index l.fn.things)
    ≡ string_bytes l.initial.out ++ flat_map
    (read_line l.fn.about.table.now (plain_insts l.fn.about.«module».now) shown l.fn.inst operands) l.fn.things
