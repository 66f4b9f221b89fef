use Rattle.std.proofs.Common.{◌≡◌, ◌++◌, string_bytes, flat_map, drop}
use Rattle.spv_lines.specs.Plain.{escaped}
use Rattle.spv_lines.proofs.plain.push_escapes.Given as goal

abbrev pub invariant-loop-byte : goal.invariant-loop-byte
invariant-loop-byte l =
    string_bytes l.out ++ flat_map escaped (drop l.byte-index l.fn.bytes) ≡ string_bytes l.initial.out
    ++ flat_map escaped l.fn.bytes
