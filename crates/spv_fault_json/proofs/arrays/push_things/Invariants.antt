use Rattle.std.proofs.Common.{◌≡◌, ◌++◌, flat_map, drop, ℕ, List, []}
use Rattle.spv_module.specs.Module.{plain_insts}
use Rattle.spv_lines.specs.Text.{ShownLines}
use Rattle.spv_fault_json.specs.Members.{thing_tokens}
use Rattle.spv_fault_json.proofs.arrays.push_things.Given as goal

abbrev pub invariant-loop-thing : goal.invariant-loop-thing
invariant-loop-thing l =
    (shown : List (List ℕ)) → ShownLines l.fn.about.table.now [] (plain_insts l.fn.about.«module».now) shown
    → l.out ++ flat_map (thing_tokens shown) (drop l.thing-index l.fn.things) ≡ l.initial.out
    ++ flat_map (thing_tokens shown) l.fn.things
