use Rattle.std.proofs.Common.{◌≡◌, ◌++◌, string_bytes, flat_map, drop}
use Rattle.spv_facts.specs.Texts.{capability_name}
use Rattle.spv_fault_lines.specs.Lines.{name_part}
use Rattle.spv_fault_lines.proofs.parts.push_capabilities.Given as goal

abbrev pub invariant-loop-capability : goal.invariant-loop-capability
invariant-loop-capability l =
    string_bytes l.out ++ flat_map (λ c. name_part (capability_name l.fn.table c))
    (drop l.capability-index l.fn.capabilities)
    ≡ string_bytes l.initial.out ++ flat_map (λ c. name_part (capability_name l.fn.table c)) l.fn.capabilities
