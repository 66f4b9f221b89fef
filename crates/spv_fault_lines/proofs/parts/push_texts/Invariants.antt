use Rattle.std.proofs.Common.{◌≡◌, ◌++◌, string_bytes, flat_map, drop}
use Rattle.spv_fault_lines.specs.inner.Parts.{spaced}
use Rattle.spv_fault_lines.proofs.parts.push_texts.Given as goal

abbrev pub invariant-loop-text : goal.invariant-loop-text
invariant-loop-text l =
    string_bytes l.out ++ flat_map spaced (drop l.text-index l.fn.texts) ≡ string_bytes l.initial.out
    ++ flat_map spaced l.fn.texts
