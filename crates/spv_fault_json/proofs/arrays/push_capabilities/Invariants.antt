use Rattle.std.proofs.Common.{◌≡◌, ◌++◌, flat_map, drop}
use Rattle.spv_fault_json.specs.Members.{capability_token}
use Rattle.spv_fault_json.proofs.arrays.push_capabilities.Given as goal

abbrev pub invariant-loop-capability : goal.invariant-loop-capability
invariant-loop-capability l =
    l.out ++ flat_map (capability_token l.fn.about.table.now)
    (drop l.capability-index l.fn.capabilities) ≡ l.initial.out
    ++ flat_map (capability_token l.fn.about.table.now) l.fn.capabilities
