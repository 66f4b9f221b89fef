use Rattle.std.proofs.Common.{◌≡◌, ◌++◌, ℕ, List, [], string_bytes, drop}
use Rattle.spv_module.specs.Module.{plain_insts}
use Rattle.spv_lines.specs.Text.{ShownLines}
use Rattle.spv_fault_lines.specs.Lines.{text_of}
use Rattle.spv_fault_lines.proofs.lines.push_lines.Given as goal

abbrev pub invariant-loop-fact : goal.invariant-loop-fact
invariant-loop-fact l =
    (shown : List (List ℕ)) → ShownLines l.fn.about.table.now [] (plain_insts l.fn.about.«module».now) shown
    → string_bytes l.out ++ text_of l.fn.about.detail l.fn.about.table.now (plain_insts l.fn.about.«module».now) shown
    (drop l.fact-index l.fn.facts)
    ≡ string_bytes l.initial.out ++ text_of l.fn.about.detail l.fn.about.table.now
    (plain_insts l.fn.about.«module».now) shown l.fn.facts
