use Rattle.std.proofs.Common.{◌-◌, ◌≤◌, ◌≡◌, ◌++◌, drop, length, take}
use Rattle.spv_commands.specs.Name.{shown_name}
use Rattle.spv_commands.proofs.name.plain_count.Given as goal

abbrev pub invariant-loop-count : goal.invariant-loop-count
invariant-loop-count l =
    (l.count ≤ length l.bytes) × (shown_name l.bytes ≡ take l.count l.bytes ++ shown_name (drop l.count l.bytes))

abbrev pub decreases-loop-count : goal.decreases-loop-count
decreases-loop-count l = length l.bytes - l.count
