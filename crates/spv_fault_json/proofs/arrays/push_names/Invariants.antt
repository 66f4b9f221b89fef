use Rattle.std.proofs.Common.{◌≡◌, ◌++◌, flat_map, drop}
use Rattle.spv_fault_json.specs.Members.{name_token}
use Rattle.spv_fault_json.proofs.arrays.push_names.Given as goal

abbrev pub invariant-loop-place : goal.invariant-loop-place
invariant-loop-place l =
    l.out ++ flat_map name_token (drop l.place l.fn.names) ≡ l.initial.out ++ flat_map name_token l.fn.names
