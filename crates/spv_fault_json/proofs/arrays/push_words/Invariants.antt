use Rattle.std.proofs.Common.{◌≡◌, ◌++◌, flat_map, drop}
use Rattle.spv_fault_json.specs.Members.{number_tokens}
use Rattle.spv_fault_json.proofs.arrays.push_words.Given as goal

abbrev pub invariant-loop-word : goal.invariant-loop-word
invariant-loop-word l =
    l.out ++ flat_map number_tokens (drop l.word-index l.fn.words) ≡ l.initial.out ++ flat_map number_tokens l.fn.words
