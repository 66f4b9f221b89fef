use Rattle.std.proofs.Common.{◌≡◌, ◌++◌, flat_map, drop, ℕ, List, [], Option}
use Rattle.spv_module.specs.Module.{plain_insts}
use Rattle.spv_lines.specs.Text.{ShownLines}
use Rattle.spv_facts.specs.inner.Owned.{AreOwners}
use Rattle.spv_fault_json.specs.Members.{read_tokens}
use Rattle.spv_fault_json.proofs.arrays.push_read_types.Given as goal

abbrev pub invariant-loop-thing : goal.invariant-loop-thing
invariant-loop-thing l =
    (operands : List (Option ℕ)) (shown : List (List ℕ)) → AreOwners l.fn.owners operands
    → ShownLines l.fn.about.table.now [] (plain_insts l.fn.about.«module».now) shown
    → l.out ++ flat_map (read_tokens (plain_insts l.fn.about.«module».now) shown operands)
    (drop l.thing-index l.fn.things)
    ≡ l.initial.out ++ flat_map (read_tokens (plain_insts l.fn.about.«module».now) shown operands) l.fn.things
