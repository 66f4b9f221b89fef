use Rattle.std.proofs.Common.{◌≡◌, ◌++◌, flat_map, drop, ℕ, List, []}
use Rattle.spv_module.specs.Module.{plain_insts}
use Rattle.spv_lines.specs.Text.{ShownLines}
use Rattle.spv_fault_json.specs.Members.{member_of}
use Rattle.spv_fault_json.proofs.members.push_members.Given as goal

abbrev pub invariant-loop-fact : goal.invariant-loop-fact
invariant-loop-fact l =
    (shown : List (List ℕ)) → ShownLines l.fn.about.table.now [] (plain_insts l.fn.about.«module».now) shown
    → l.out ++ flat_map (member_of l.fn.about.table.now (plain_insts l.fn.about.«module».now) shown)
    (drop l.fact-index l.fn.facts) ≡ l.initial.out
    ++ flat_map (member_of l.fn.about.table.now (plain_insts l.fn.about.«module».now) shown) l.fn.facts
