use Rattle.std.proofs.Common.{◌≡◌, ◌++◌, string_bytes, flat_map, drop}
use Rattle.spv_fault_lines.specs.Lines.{word_part}
use Rattle.spv_fault_lines.proofs.lines.push_words.Given as goal

abbrev pub invariant-loop-word : goal.invariant-loop-word
invariant-loop-word l =
    string_bytes l.out ++ flat_map word_part (drop l.word-index l.fn.words) ≡ string_bytes l.initial.out
    ++ flat_map word_part l.fn.words
